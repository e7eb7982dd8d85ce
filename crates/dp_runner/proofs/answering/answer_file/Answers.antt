use Rattle.std.proofs.Common.{◌≡◌, arith, ap, sym, subst, option_map, Err}
use Rattle.std.proofs.lemmas.Result.{err_from_is_err_and}
use Rattle.dp_io.specs.Lines.{LinesValue, remaining}
use Rattle.dp_io.specs.Shelf.{Files, StartsFile}
use Rattle.dp_runner.specs.declared.stop.Stop.TheVariants as stop
use Rattle.dp_runner.specs.Answering.{answered, interrupted, file_answered, file_shape}
use Rattle.dp_runner.specs.Outcome.{or_stop, source_at}
use Rattle.dp_runner.specs.Stops.{stop_of_open}
use Rattle.dp_runner.proofs.FileRuns.{open-reason, runs-told, told-file, file-taken, file-interrupted, none-taken}
use Rattle.dp_runner.proofs.Runs.{runs-unread}
use Rattle.dp_runner.proofs.WritesLast.{lines-none}
use Rattle.dp_runner.proofs.answering.answer_file.Goals as goal

pub returns-in_err-slot-clause-runs : goal.returns-in_err-slot-clause-runs
returns-in_err-slot-clause-runs g c =
    let p = err_from_is_err_and c.from_residual.result c.from_residual.ensures.1 in
    let source = source_at g.D.Draws.step (g.D.Draws.state c.args.draws.now) in
    rw (p.1, p.2) (runs-unread (stop_of_open c.in_err-slot.field-0.0) source
    (λ (files : Files). answered source (g.A.Answerer.answering c.args.answerer.now))
    (g.S.Shelf.files c.args.shelf.now) (λ files. or_stop stop.ReadFault (files c.args.name.now)) _ _ _
    (open-reason c.in_err-slot.field-0.0 (g.S.Shelf.files c.args.shelf.now) c.args.name.now _ _
    (λ failed. c.in_err-slot.ensures.cause (ap Err failed))))

pub returns-in_err-slot-clause-taken : goal.returns-in_err-slot-clause-taken
returns-in_err-slot-clause-taken g c = λ other files is.
    none-taken g.D.Draws.step (file_shape (g.A.Answerer.answering c.args.answerer.now) files c.args.name.now)
    (g.D.Draws.state c.args.draws.now)

pub returns-in_err-lines-clause-runs : goal.returns-in_err-lines-clause-runs
returns-in_err-lines-clause-runs g c =
    let p = err_from_is_err_and c.from_residual-in_err-lines.result c.from_residual-in_err-lines.ensures.1 in
    rw (p.1, p.2) (λ files is. lines-none _ _)

pub returns-in_err-lines-clause-taken : goal.returns-in_err-lines-clause-taken
returns-in_err-lines-clause-taken g c = λ other files is.
    none-taken g.D.Draws.step (file_shape (g.A.Answerer.answering c.args.answerer.now) files c.args.name.now)
    (g.D.Draws.state c.args.draws.now)

pub returns-clause-runs : goal.returns-clause-runs
returns-clause-runs g c =
    let source = source_at g.D.Draws.step (g.D.Draws.state c.args.draws.now) in
    let answering = g.A.Answerer.answering c.args.answerer.now in
    runs-told c.answer_lines.result (g.S.Shelf.files c.args.shelf.now) (λ files. file_answered source answering files c.args.name.now)
    (option_map (answered source answering) (remaining c.in_ok-lines.lines (g.S.Shelf.left c.open.new.self c.in_ok-lines.lines.slot)))
    (g.S.Shelf.faults c.args.shelf.now) (g.S.Shelf.faults c.open.new.self) (g.S.Shelf.faults c.answer_lines.new.shelf) _ _ _
    (omega arith)
    (λ files is. told-file source answering (g.S.Shelf.files c.args.shelf.now) files c.args.name.now c.in_ok-lines.lines c.in_ok-slot.slot _
    c.in_ok-lines.ensures is
    (subst (λ n. StartsFile (g.S.Shelf.files c.args.shelf.now) c.args.name.now (g.S.Shelf.left c.open.new.self n))
    (sym (ap (λ (lines : LinesValue). lines.slot) c.in_ok-lines.ensures)) c.in_ok-slot.ensures.starts))
    c.answer_lines.ensures.runs

pub returns-clause-taken : goal.returns-clause-taken
returns-clause-taken g c = λ other.
    file-taken g.D.Draws.step (g.D.Draws.state c.args.draws.now) _ (g.A.Answerer.answering c.args.answerer.now)
    (g.S.Shelf.files c.args.shelf.now) c.args.name.now c.in_ok-lines.lines c.in_ok-slot.slot _ c.in_ok-lines.ensures
    (subst (λ n. StartsFile (g.S.Shelf.files c.args.shelf.now) c.args.name.now (g.S.Shelf.left c.open.new.self n))
    (sym (ap (λ (lines : LinesValue). lines.slot) c.in_ok-lines.ensures)) c.in_ok-slot.ensures.starts)
    (c.answer_lines.ensures.taken other)

pub returns-clause-interrupted : goal.returns-clause-interrupted
returns-clause-interrupted g c = λ failed opened files is.
    let source = source_at g.D.Draws.step (g.D.Draws.state c.args.draws.now) in
    let at : c.in_ok-lines.lines.slot ≡ c.in_ok-slot.slot = ap (λ (lines : LinesValue). lines.slot) c.in_ok-lines.ensures in
    file-interrupted (g.S.Shelf.files c.args.shelf.now) files c.args.name.now c.in_ok-lines.lines c.in_ok-slot.slot _ _
    (g.S.Shelf.left c.answer_lines.new.shelf) (interrupted source (g.A.Answerer.answering c.args.answerer.now)) _ _ _
    c.in_ok-lines.ensures is
    (subst (λ n. StartsFile (g.S.Shelf.files c.args.shelf.now) c.args.name.now (g.S.Shelf.left c.open.new.self n))
    (sym at) c.in_ok-slot.ensures.starts)
    (omega (arith, at, opened, c.in_ok-slot.ensures.slot))
    (c.answer_lines.ensures.interrupted failed)
