use Rattle.dp_runner.proofs.Transcripts.{replay-done}
use Rattle.dp_runner.proofs.laws.replay_law.Goals as goal

pub returns : goal.returns
returns c = replay-done
