use Rattle.dp_geometric.proofs.Ways.{geometric-ways}
use Rattle.dp_geometric.proofs.laws.ways_law.Goals as goal

pub returns : goal.returns
returns c = geometric-ways
