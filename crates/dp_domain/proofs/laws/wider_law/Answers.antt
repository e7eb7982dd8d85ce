use Rattle.dp_domain.proofs.Growth.{within-wider, within-itself}
use Rattle.dp_domain.proofs.laws.wider_law.Goals as goal

pub returns-clause-wider : goal.returns-clause-wider
returns-clause-wider c = within-wider

pub returns-clause-itself : goal.returns-clause-itself
returns-clause-itself c = within-itself
