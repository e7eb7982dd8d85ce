use Rattle.dp_runner.proofs.ReleaseDone.{group-done}
use Rattle.dp_runner.proofs.laws.group_law.Goals as goal

pub returns : goal.returns
returns c = group-done
