use Rattle.std.proofs.Common.{ap, ◌∙◌, List, ℕ, []}
use Rattle.std.specs.Prelude.{Option, unwrap_or}
use Rattle.dp_records.proofs.CutCells.{cell-or}
use Rattle.dp_records.proofs.cells.cell_at.Goals as goal

pub returns-in-Some : goal.returns-in-Some
returns-in-Some c = ap (λ (o : Option (List ℕ)). unwrap_or o []) c.in-Some.ensures.value ∙ cell-or _ c.args.column

pub returns-in-None : goal.returns-in-None
returns-in-None c = ap (λ (o : Option (List ℕ)). unwrap_or o []) c.in-None.ensures.value ∙ cell-or _ c.args.column
