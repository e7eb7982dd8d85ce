use Rattle.std.proofs.Common.{◌≡◌, take, map}
use Rattle.dp_rowwise.specs.Truncate.{record_at}
use Rattle.dp_store.proofs.store.selected_rows.Given as goal

abbrev pub invariant-loop-k : goal.invariant-loop-k
invariant-loop-k l = l.rows.items ≡ map (record_at l.store.records) (take l.k l.base)
