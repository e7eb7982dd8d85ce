use Rattle.std.proofs.Common.{◌≡◌, [], replicate}
use Rattle.dp_rowwise.proofs.lists.empty_lists.Given as goal

abbrev pub invariant-loop-turn : goal.invariant-loop-turn
invariant-loop-turn g l = l.lists.items ≡ replicate l._turn []
