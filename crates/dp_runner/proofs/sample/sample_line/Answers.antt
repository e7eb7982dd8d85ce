use Rattle.std.proofs.Common.{rules}
use Rattle.dp_runner.specs.Sample.{sample_line}
use Rattle.dp_runner.proofs.sample.sample_line.Goals as goal

pub returns : goal.returns
unfolding sample_line
returns c = search rules
