use Rattle.std.proofs.Common.{◌≡◌, take}
use Rattle.std.specs.Prelude.{nat_le}
use Rattle.std.specs.List.{sum}
use Rattle.dp_choice.specs.Weights.{weights, first_weight, all_draws}
use Rattle.dp_choice.specs.Parts.{numbers_of}
use Rattle.dp_choice.specs.Shares.{share, last_below}
use Rattle.dp_choice.proofs.choice.Choice.place.Given as goal

abbrev pub invariant-loop-cell : goal.invariant-loop-cell
invariant-loop-cell l = let ws = weights first_weight (numbers_of l.self) l.cells in
    (l.before ≡ sum (take l.cell-index ws)) × (l.place ≡ l.cell-index) × (l.chosen ≡ last_below l.cell-index (λ j. nat_le (share all_draws ws j) l.draw))
