use Rattle.std.proofs.Common.{length}
use Rattle.dp_chain.proofs.release.+total_loss.Given as goal

abbrev pub decreases-total_loss : goal.decreases-total_loss
decreases-total_loss l = length l.parts.now
