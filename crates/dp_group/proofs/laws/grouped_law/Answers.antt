use Rattle.dp_group.specs.GroupedProof.{ways_law, grouped_law}
use Rattle.dp_group.proofs.laws.grouped_law.Goals as goal

pub returns-clause-ways : goal.returns-clause-ways
returns-clause-ways c = ways_law

pub returns-clause-private : goal.returns-clause-private
returns-clause-private c = grouped_law
