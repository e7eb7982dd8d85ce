use Rattle.std.proofs.Common.{◌≡◌}
use Rattle.dp_choice.specs.Weights.{weight, first_weight, weight_table}
use Rattle.dp_choice.proofs.weights.weight_table.Given as goal

abbrev pub invariant-loop-score : goal.invariant-loop-score
invariant-loop-score l = (l.table.items ≡ weight_table first_weight l.low l.high l._score) × (l.weight ≡ weight first_weight l.low l.high l._score)
