use Rattle.dp_domain.proofs.Groups.{parts-filter, few-apart}
use Rattle.dp_domain.proofs.laws.few_law.Goals as goal

pub returns-clause-filter : goal.returns-clause-filter
returns-clause-filter g c = λ by. parts-filter by.key by.same_key by.tells_keys by.same by.tells

pub returns-clause-few : goal.returns-clause-few
returns-clause-few g c = λ by. few-apart by.key by.same_key by.tells_keys by.same by.tells
