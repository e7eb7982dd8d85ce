use Rattle.dp_domain.proofs.Groups.{most-parts, cover-parts, part-sum, cover-sum}
use Rattle.dp_domain.proofs.laws.key_law.Goals as goal

pub returns-clause-most : goal.returns-clause-most
returns-clause-most g c = λ by. most-parts by.key by.same_key by.tells_keys by.same by.tells

pub returns-clause-cover : goal.returns-clause-cover
returns-clause-cover g c = λ by. cover-parts by.key by.same_key by.tells_keys by.same by.tells

pub returns-clause-sum : goal.returns-clause-sum
returns-clause-sum g c = λ by. part-sum by.key by.same_key by.tells_keys by.same by.tells

pub returns-clause-cover_sum : goal.returns-clause-cover_sum
returns-clause-cover_sum g c = λ by. cover-sum by.key by.same_key by.tells_keys by.same by.tells
