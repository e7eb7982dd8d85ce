use Rattle.dp_count.proofs.Slots.{count-replies, replies-ratio}
use Rattle.dp_count.proofs.laws.slots_law.Goals as goal

pub returns-clause-product : goal.returns-clause-product
returns-clause-product g c = count-replies

pub returns-clause-ratio : goal.returns-clause-ratio
returns-clause-ratio g c = replies-ratio
