use Rattle.dp_runner.proofs.ReleaseDone.{post-done}
use Rattle.dp_runner.proofs.laws.post_law.Goals as goal

pub returns : goal.returns
returns c = post-done
