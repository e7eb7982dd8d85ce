use Rattle.dp_aggregate.proofs.LeastNumbers.{order-law, resize-law}
use Rattle.dp_aggregate.proofs.laws.resize_law.Goals as goal

pub returns-clause-order : goal.returns-clause-order
returns-clause-order c = order-law

pub returns-clause-resized : goal.returns-clause-resized
returns-clause-resized c = resize-law
