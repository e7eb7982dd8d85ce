use Rattle.dp_count.proofs.Counting.{count-either, count-true}
use Rattle.dp_count.proofs.laws.sum_law.Goals as goal

pub returns-clause-either : goal.returns-clause-either
returns-clause-either c = count-either

pub returns-clause-whole : goal.returns-clause-whole
returns-clause-whole c = count-true
