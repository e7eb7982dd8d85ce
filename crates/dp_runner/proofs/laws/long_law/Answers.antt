use Rattle.dp_runner.proofs.PipelineSteps.{accepted-longer}
use Rattle.dp_runner.proofs.laws.long_law.Goals as goal

pub returns : goal.returns
returns c = accepted-longer
