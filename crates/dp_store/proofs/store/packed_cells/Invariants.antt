use Rattle.std.proofs.Common.{◌≡◌, take}
use Rattle.dp_records.specs.Records.{all_cells}
use Rattle.dp_store.proofs.store.packed_cells.Given as goal

abbrev pub invariant-loop-row : goal.invariant-loop-row
invariant-loop-row l = l.cells ≡ all_cells (take l.row-index l.rows)
