use Rattle.std.proofs.Common.{◌≡◌}
use Rattle.dp_records.specs.Records.{rows_of}
use Rattle.dp_records.proofs.records.rows_of.Given as goal

abbrev pub invariant-loop-place : goal.invariant-loop-place
invariant-loop-place l = l.rows.items ≡ rows_of l.place l.columns l.cells
