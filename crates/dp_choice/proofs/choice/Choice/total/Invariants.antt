use Rattle.std.proofs.Common.{◌≡◌, take}
use Rattle.std.specs.List.{sum}
use Rattle.dp_choice.specs.Weights.{weights, first_weight}
use Rattle.dp_choice.specs.Parts.{numbers_of}
use Rattle.dp_choice.proofs.choice.Choice.total.Given as goal

abbrev pub invariant-loop-cell : goal.invariant-loop-cell
invariant-loop-cell l = l.total ≡ sum (take l.cell-index (weights first_weight (numbers_of l.self) l.cells))
