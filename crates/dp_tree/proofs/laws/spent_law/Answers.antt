use Rattle.dp_tree.proofs.Accounts.{declared-law, child-law, root-spent-law, most-spent-law}
use Rattle.dp_tree.proofs.laws.spent_law.Goals as goal

pub returns-clause-declared : goal.returns-clause-declared
returns-clause-declared c = declared-law

pub returns-clause-child : goal.returns-clause-child
returns-clause-child c = child-law

pub returns-clause-root : goal.returns-clause-root
returns-clause-root c = root-spent-law

pub returns-clause-most : goal.returns-clause-most
returns-clause-most c = most-spent-law
