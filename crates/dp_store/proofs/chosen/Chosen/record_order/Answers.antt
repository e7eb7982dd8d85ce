use Rattle.std.proofs.Common.{◌≡◌, min, length, sym, ◌∙◌, arith}
use Rattle.dp_rowwise.specs.Truncate.{text_cmp}
use Rattle.dp_rowwise.proofs.Comparing.{lengths-decide}
use Rattle.dp_store.specs.Selections.{row_at}
use Rattle.dp_store.proofs.chosen.Chosen.record_order.Goals as goal

pub returns : goal.returns
returns c =
    let one = row_at c.args.self.now.store.now.records c.args.self.now.base.now c.args.i in
    let other = row_at c.args.self.now.store.now.records c.args.self.now.base.now c.args.j in
    let all : min (length one) (length other) ≡ c.loop-column.column = omega (arith, c.width-one.ensures.cells, c.width-other.ensures.cells, c.min-column-end.ensures) in
    (rw (c.width-one.ensures.cells, c.width-other.ensures.cells) at c.cmp.ensures) ∙ sym (c.loop-column.invariant ∙ lengths-decide text_cmp one other c.loop-column.column all)
