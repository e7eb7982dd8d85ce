use Rattle.dp_count.proofs.LeadingRun.{run-exact, run-whole, run-long}
use Rattle.dp_count.proofs.laws.run_law.Goals as goal

pub returns-clause-exact : goal.returns-clause-exact
returns-clause-exact c = run-exact

pub returns-clause-whole : goal.returns-clause-whole
returns-clause-whole c = run-whole

pub returns-clause-long : goal.returns-clause-long
returns-clause-long c = run-long
