use Rattle.dp_runner.proofs.Transcripts.{run-done}
use Rattle.dp_runner.proofs.laws.run_law.Goals as goal

pub returns : goal.returns
returns c = run-done
