use Rattle.dp_tree.proofs.Freezing.{path-law, free-law}
use Rattle.dp_tree.proofs.laws.frozen_law.Goals as goal

pub returns-clause-path : goal.returns-clause-path
returns-clause-path c = path-law

pub returns-clause-number : goal.returns-clause-number
returns-clause-number c = free-law
