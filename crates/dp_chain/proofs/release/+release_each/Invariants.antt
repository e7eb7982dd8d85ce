use Rattle.std.proofs.Common.{length}
use Rattle.dp_chain.proofs.release.+release_each.Given as goal

abbrev pub decreases-release_each : goal.decreases-release_each
decreases-release_each g l = length l.parts.now
