use Rattle.std.proofs.Common.{◌≡◌, take}
use Rattle.dp_chain.proofs.noise.PartDuplicate.duplicate_all.Given as goal

abbrev pub invariant-loop-item : goal.invariant-loop-item
invariant-loop-item l = l.copies.items ≡ take l.item-index l.items
