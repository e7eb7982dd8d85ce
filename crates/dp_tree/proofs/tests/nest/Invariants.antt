use Rattle.std.proofs.Common.{◌+◌}
use Rattle.dp_tree.specs.Table.{IsNext}
use Rattle.dp_tree.proofs.tests.nest.Given as goal

abbrev pub invariant-loop-above : goal.invariant-loop-above
invariant-loop-above l = IsNext l.tree (l.above + 1)
