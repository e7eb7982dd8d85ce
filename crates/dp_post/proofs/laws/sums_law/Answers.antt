use Rattle.dp_post.proofs.RunningSums.{running-sums}
use Rattle.dp_post.proofs.laws.sums_law.Goals as goal

pub returns : goal.returns
returns c = running-sums
