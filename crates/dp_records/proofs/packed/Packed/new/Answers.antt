use Rattle.dp_records.proofs.PackedPlaces.{packed-none, cut-none}
use Rattle.dp_records.proofs.packed.Packed.new.Goals as goal

pub invariant_of-result : goal.invariant_of-result
invariant_of-result c = rw (c.new.ensures.items, c.new-2.ensures.items) packed-none

pub returns : goal.returns
returns c = rw (c.new.ensures.items, c.new-2.ensures.items) cut-none
