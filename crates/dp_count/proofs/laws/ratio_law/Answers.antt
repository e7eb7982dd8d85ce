use Rattle.dp_count.proofs.Ratios.{ratio-both, ratio-more, ratio-list, ratio-sum}
use Rattle.dp_count.proofs.laws.ratio_law.Goals as goal

pub returns-clause-product : goal.returns-clause-product
returns-clause-product c = λ p q one other. ratio-both p q one.k other.k one.x one.y other.x other.y

pub returns-clause-growth : goal.returns-clause-growth
returns-clause-growth c = λ p q k pair. ratio-more p q pair.k k pair.x pair.y

pub returns-clause-list : goal.returns-clause-list
returns-clause-list c = ratio-list

pub returns-clause-sum : goal.returns-clause-sum
returns-clause-sum c = ratio-sum
