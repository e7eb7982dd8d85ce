use Rattle.std.proofs.Common.{◌≡◌, ◌≤◌}
use Rattle.dp_choice.specs.Weights.{weight, first_weight, all_draws}
use Rattle.dp_choice.proofs.weights.greatest_weight.Given as goal

abbrev pub invariant-loop-score : goal.invariant-loop-score
invariant-loop-score l = (l.weight ≡ weight first_weight l.low l.high l._score) × (l.weight ≤ all_draws)
