use Rattle.dp_records.proofs.RowCells.{length-rows_of}
use Rattle.dp_store.proofs.store.Store.len.Goals as goal

pub returns-clause-len : goal.returns-clause-len
returns-clause-len c = rw (← c.self.view_is, length-rows_of c.self.inside.len c.self.inside.columns c.self.inside.cells) c.from.ensures
