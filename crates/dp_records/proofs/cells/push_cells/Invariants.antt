use Rattle.std.proofs.Common.{◌≡◌, ◌++◌}
use Rattle.csv.specs.Records.{fields_of}
use Rattle.dp_records.specs.Records.{cut_or_pad}
use Rattle.dp_records.proofs.cells.push_cells.Given as goal

abbrev pub invariant-loop-column : goal.invariant-loop-column
invariant-loop-column l = l.cells ≡ l.initial.cells ++ cut_or_pad l.column (fields_of l.row)
