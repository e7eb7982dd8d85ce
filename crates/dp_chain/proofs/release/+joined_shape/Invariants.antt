use Rattle.std.proofs.Common.{length}
use Rattle.dp_chain.proofs.release.+joined_shape.Given as goal

abbrev pub decreases-joined_shape : goal.decreases-joined_shape
decreases-joined_shape l = length l.parts.now
