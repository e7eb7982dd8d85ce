use Rattle.std.proofs.Common.{rules}
use Rattle.dp_runner.specs.Sample.{records_line}
use Rattle.dp_runner.proofs.sample.records_line.Goals as goal

pub returns : goal.returns
unfolding records_line
returns c = search rules
