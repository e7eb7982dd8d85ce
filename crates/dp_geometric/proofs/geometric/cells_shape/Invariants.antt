use Rattle.std.proofs.Common.{◌≡◌}
use Rattle.dp_geometric.specs.Geometric.{cells_shape}
use Rattle.dp_geometric.specs.Parts.{cell_of}
use Rattle.dp_geometric.proofs.geometric.cells_shape.Given as goal

abbrev pub invariant-loop-turn : goal.invariant-loop-turn
invariant-loop-turn l = l.shape ≡ cells_shape l._turn (cell_of l.cell)
