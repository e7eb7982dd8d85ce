use Rattle.dp_runner.proofs.CheckRuns.{check-done}
use Rattle.dp_runner.proofs.laws.check_law.Goals as goal

pub returns : goal.returns
returns c = check-done
