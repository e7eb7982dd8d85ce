-- A cell whose six draw lists can be read off.
use Rattle.std.specs.Prelude.{pos}
use Rattle.dp_geometric.specs.OneCell.{CellNumbers}

-- the cell from 0 to 1 with the ratio 1 / 2
abbrev pub small_cell : CellNumbers
small_cell = record { lo = pos 0; hi = pos 1; low = 1; high = 2 }
