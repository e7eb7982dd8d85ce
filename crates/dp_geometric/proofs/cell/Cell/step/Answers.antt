use Rattle.std.proofs.lemmas.Result.{err_from_is_err_and}
use Rattle.std.proofs.Common.{w64}
use mir.Val.{SFits}
use Rattle.dp_geometric.proofs.Settling.{answered}
use Rattle.dp_geometric.proofs.Stepping.{first-fails, first-last, run-fails, run-answers}
use Rattle.dp_geometric.specs.OneCell.{cell_out}
use Rattle.dp_geometric.specs.Parts.{cell_of}
use Rattle.dp_geometric.proofs.cell.Cell.step.Goals as goal

pub returns-in_err-first-clause-answer : goal.returns-in_err-first-clause-answer
returns-in_err-first-clause-answer g c =
    let cell = cell_of c.args.self.now in
    let p = err_from_is_err_and c.from_residual.result c.from_residual.ensures.1 in
    rw p.1 (first-fails (cell_out cell c.args.v) _ _ _ cell c.in_err-first.ensures.step).0

pub returns-in_err-first-clause-last : goal.returns-in_err-first-clause-last
returns-in_err-first-clause-last g c =
    let cell = cell_of c.args.self.now in
    (first-fails (cell_out cell c.args.v) _ _ _ cell c.in_err-first.ensures.step).1

pub returns-in_err-run-clause-answer : goal.returns-in_err-run-clause-answer
returns-in_err-run-clause-answer g c =
    let cell = cell_of c.args.self.now in
    let p = err_from_is_err_and c.from_residual-in_err-run.result c.from_residual-in_err-run.ensures.1 in
    rw p.1 (run-fails (cell_out cell c.args.v) _ _ _ cell _ _ c.width.ensures.value c.in_ok-first.ensures.step c.in_err-run.ensures.run)

pub returns-in_err-run-clause-last : goal.returns-in_err-run-clause-last
returns-in_err-run-clause-last g c =
    let cell = cell_of c.args.self.now in
    first-last _ _ _ _ cell _ _ c.width.ensures.value c.in_ok-first.ensures.step c.leading_run.ensures.last

pub returns-clause-answer : goal.returns-clause-answer
returns-clause-answer g c =
    let cell = cell_of c.args.self.now in
    let fits_noise : SFits w64 c.noise.result = record { sfits = c.noise.type_inv } in
    let fits_answer : SFits w64 c.settle.result = record { sfits = c.settle.type_inv } in
    run-answers _ _ _ cell c.args.v _ _ _ _ c.width.ensures.value c.in_ok-first.ensures.step c.in_ok-run.ensures.run
    (answered cell.lo cell.hi c.args.v c.noise.result _ c.settle.result c.ranges.v fits_noise fits_answer c.noise.ensures.value c.settle.ensures)

pub returns-clause-last : goal.returns-clause-last
returns-clause-last g c =
    let cell = cell_of c.args.self.now in
    first-last _ _ _ _ cell _ _ c.width.ensures.value c.in_ok-first.ensures.step c.leading_run.ensures.last
