use Rattle.dp_count.proofs.Counting.{count-partition}
use Rattle.dp_count.proofs.laws.partition_law.Goals as goal

pub returns : goal.returns
returns g c = count-partition
