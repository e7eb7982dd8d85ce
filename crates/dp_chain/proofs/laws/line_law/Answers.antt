use Rattle.dp_chain.proofs.StageLaws.{stage-law}
use Rattle.dp_chain.proofs.LineLaws.{line-law}
use Rattle.dp_chain.proofs.laws.line_law.Goals as goal

pub returns-clause-stage : goal.returns-clause-stage
returns-clause-stage c = stage-law

pub returns-clause-line : goal.returns-clause-line
returns-clause-line c = line-law
