use Rattle.std.proofs.Common.{◌≡◌, take, drop}
use Rattle.dp_records.proofs.packed.Packed.texts.Given as goal

abbrev pub invariant-loop-k : goal.invariant-loop-k
invariant-loop-k l = l.texts.items ≡ take l.k (drop l.from l.self)
