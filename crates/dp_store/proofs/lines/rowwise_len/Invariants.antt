use Rattle.std.proofs.Common.{take}
use Rattle.dp_store.specs.Rowwise.{AllRowwise}
use Rattle.dp_store.proofs.lines.rowwise_len.Given as goal

abbrev pub invariant-loop-k : goal.invariant-loop-k
invariant-loop-k l = AllRowwise (take l.k l.stages)
