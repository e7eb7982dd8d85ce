-- What is read of a cell: its numbers.
use Rattle.dp_geometric.specs.OneCell.{CellNumbers}
use Rattle.dp_geometric.specs.declared.cell.Cell.{Cell}

-- the numbers of a cell
abbrev pub cell_of : Cell → CellNumbers
cell_of cell = record { lo = cell.lo; hi = cell.hi; low = cell.low; high = cell.high }
