use Rattle.std.proofs.Common.{refl}
use Rattle.dp_count.specs.DrawLists.{count, sum_below}
use Rattle.dp_geometric.specs.OneCell.{cell_out}
use Rattle.dp_geometric.specs.CellLaw.{ways}
use Rattle.dp_geometric.proofs.small.on_one.Goals as goal

pub returns-clause-near : goal.returns-clause-near
unfolding ways cell_out count sum_below
returns-clause-near c = refl

pub returns-clause-far : goal.returns-clause-far
unfolding ways cell_out count sum_below
returns-clause-far c = refl
