use Rattle.dp_count.proofs.Counting.{count-block}
use Rattle.dp_count.proofs.laws.block_law.Goals as goal

pub returns : goal.returns
returns c = count-block
