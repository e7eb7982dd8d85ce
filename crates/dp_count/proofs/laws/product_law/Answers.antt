use Rattle.dp_count.proofs.Counting.{count-append}
use Rattle.dp_count.proofs.Slots.{count-cut}
use Rattle.dp_count.proofs.laws.product_law.Goals as goal

pub returns-clause-product : goal.returns-clause-product
returns-clause-product c = count-append

pub returns-clause-cut : goal.returns-clause-cut
returns-clause-cut c = count-cut
