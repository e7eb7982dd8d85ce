use Rattle.dp_store.proofs.StoredCells.{stored-AllOf}
use Rattle.dp_store.proofs.store.Store.columns.Goals as goal

pub returns-clause-each : goal.returns-clause-each
returns-clause-each c = rw (← c.self.view_is) (stored-AllOf c.self.inside.len c.self.inside.columns c.self.inside.cells c.self.invariant)
