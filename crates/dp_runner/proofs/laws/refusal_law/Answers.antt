use Rattle.dp_runner.proofs.CheckRuns.{check-refused}
use Rattle.dp_runner.proofs.laws.refusal_law.Goals as goal

pub returns : goal.returns
returns c = check-refused
