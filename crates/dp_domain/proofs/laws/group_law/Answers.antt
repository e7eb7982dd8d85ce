use Rattle.dp_domain.proofs.Groups.{parts-symmetric, parts-reorder, parts-order, parts-none}
use Rattle.dp_domain.proofs.laws.group_law.Goals as goal

pub returns-clause-symmetric : goal.returns-clause-symmetric
returns-clause-symmetric g c = λ by. parts-symmetric by.key by.same_key by.tells_keys by.same by.tells

pub returns-clause-reorder : goal.returns-clause-reorder
returns-clause-reorder g c = λ by. parts-reorder by.key by.same_key by.tells_keys by.same by.tells

pub returns-clause-none : goal.returns-clause-none
returns-clause-none g c = λ by xs ys. (parts-order by.key by.same_key by.tells_keys by.same by.tells xs ys, parts-none by.key by.same_key by.tells_keys by.same by.tells xs ys)
