use Rattle.dp_domain.proofs.Distance.{diff-symmetric, diff-triangle}
use Rattle.dp_domain.proofs.laws.distance_law.Goals as goal

pub returns-clause-symmetric : goal.returns-clause-symmetric
returns-clause-symmetric g c = diff-symmetric

pub returns-clause-triangle : goal.returns-clause-triangle
returns-clause-triangle g c = diff-triangle
