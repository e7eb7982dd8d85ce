use Rattle.std.proofs.Common.{◌≡◌, drop}
use Rattle.dp_rowwise.specs.Truncate.{record_cmp}
use Rattle.dp_store.specs.Selections.{row_at}
use Rattle.dp_store.proofs.chosen.Chosen.record_order.Given as goal

abbrev pub invariant-loop-column : goal.invariant-loop-column
invariant-loop-column l =
    record_cmp (row_at l.self.store.now.records l.self.base.now l.i) (row_at l.self.store.now.records l.self.base.now l.j)
    ≡ record_cmp (drop l.column (row_at l.self.store.now.records l.self.base.now l.i)) (drop l.column (row_at l.self.store.now.records l.self.base.now l.j))
