use Rattle.std.proofs.Common.{◌≡◌, drop}
use Rattle.dp_rowwise.specs.Truncate.{record_cmp}
use Rattle.dp_rowwise.proofs.truncate.record_order.Given as goal

abbrev pub invariant-loop-column : goal.invariant-loop-column
invariant-loop-column l = record_cmp l.one l.other ≡ record_cmp (drop l.column l.one) (drop l.column l.other)
