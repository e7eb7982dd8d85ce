use Rattle.dp_count.proofs.ReplySets.{set-law, set-ratio}
use Rattle.dp_count.proofs.laws.set_law.Goals as goal

pub returns-clause-sum : goal.returns-clause-sum
returns-clause-sum g c = set-law

pub returns-clause-ratio : goal.returns-clause-ratio
returns-clause-ratio g c = set-ratio
