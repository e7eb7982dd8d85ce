use Rattle.dp_domain.proofs.Distance.{diff-filter_map, diff-map, diff-filter}
use Rattle.dp_domain.proofs.laws.map_law.Goals as goal

pub returns-clause-filter_map : goal.returns-clause-filter_map
returns-clause-filter_map g c = diff-filter_map

pub returns-clause-map : goal.returns-clause-map
returns-clause-map g c = diff-map

pub returns-clause-filter : goal.returns-clause-filter
returns-clause-filter g c = diff-filter
