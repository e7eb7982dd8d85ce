use Rattle.dp_runner.proofs.SampleRuns.{sample-done}
use Rattle.dp_runner.proofs.laws.sample_law.Goals as goal

pub returns : goal.returns
returns c = sample-done
