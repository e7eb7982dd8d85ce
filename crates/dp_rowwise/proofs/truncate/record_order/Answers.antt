use Rattle.std.proofs.Common.{sym, ◌∙◌, arith}
use Rattle.dp_rowwise.specs.Truncate.{text_cmp}
use Rattle.dp_rowwise.proofs.Comparing.{lengths-decide}
use Rattle.dp_rowwise.proofs.truncate.record_order.Goals as goal

pub returns : goal.returns
returns c = c.cmp.ensures ∙ sym (c.loop-column.invariant ∙ lengths-decide text_cmp c.args.one.now c.args.other.now c.loop-column.column (omega arith))
