use Rattle.dp_domain.proofs.Distance.{split, split-distance, diff-le-split}
use Rattle.dp_domain.proofs.laws.split_law.Goals as goal

pub returns-clause-split : goal.returns-clause-split
returns-clause-split g c = λ same told xs ys. (split same told xs ys, split-distance same told xs ys)

pub returns-clause-least : goal.returns-clause-least
returns-clause-least g c = diff-le-split
