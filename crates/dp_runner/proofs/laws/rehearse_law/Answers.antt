use Rattle.dp_runner.proofs.Transcripts.{rehearse-done}
use Rattle.dp_runner.proofs.laws.rehearse_law.Goals as goal

pub returns : goal.returns
returns c = rehearse-done
