use Rattle.std.proofs.Common.{length}
use Rattle.dp_chain.proofs.release.+all_pieces.Given as goal

abbrev pub decreases-all_pieces : goal.decreases-all_pieces
decreases-all_pieces l = length l.parts.now
