use Rattle.std.proofs.Common.{refl}
use Rattle.dp_count.specs.Bounds.{bounds}
use Rattle.dp_count.proofs.Runs.{AreRuns-none}
use Rattle.dp_count.proofs.shape.Shape.new.Goals as goal

pub invariant_of-result : goal.invariant_of-result
invariant_of-result c = rw c.new.ensures.items AreRuns-none

pub returns : goal.returns
unfolding bounds
returns c = rw c.new.ensures.items refl
