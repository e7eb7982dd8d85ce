use Rattle.dp_runner.proofs.CountRuns.{count-done}
use Rattle.dp_runner.proofs.laws.count_law.Goals as goal

pub returns : goal.returns
returns c = count-done
