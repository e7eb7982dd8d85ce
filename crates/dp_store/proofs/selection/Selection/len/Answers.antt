use Rattle.std.proofs.Common.{sym, ◌∙◌}
use Rattle.dp_store.proofs.AllNumbers.{all-length}
use Rattle.dp_store.proofs.selection.Selection.len.Goals as goal

pub returns-in-All : goal.returns-in-All
returns-in-All c = rw (← c.self.view_is) (c.from.ensures ∙ sym (all-length _ _ c.in-All.is))
