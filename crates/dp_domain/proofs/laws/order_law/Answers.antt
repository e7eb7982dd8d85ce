use Rattle.dp_domain.proofs.Distance.{diff-order, diff-none, diff-reorder}
use Rattle.dp_domain.proofs.laws.order_law.Goals as goal

pub returns-clause-reorder : goal.returns-clause-reorder
returns-clause-reorder g c = diff-reorder

pub returns-clause-none : goal.returns-clause-none
returns-clause-none g c = λ same told xs ys. (diff-order same told xs ys, diff-none same told xs ys)
