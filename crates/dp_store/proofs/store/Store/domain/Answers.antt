use Rattle.dp_records.proofs.RowCells.{length-rows_of}
use Rattle.dp_store.proofs.StoredCells.{stored-AllOf}
use Rattle.dp_store.proofs.store.Store.domain.Goals as goal

pub returns-clause-records : goal.returns-clause-records
returns-clause-records c =
    rw (← c.self.view_is) (
      rw (length-rows_of c.self.inside.len c.self.inside.columns c.self.inside.cells) c.self.invariant.within,
      stored-AllOf c.self.inside.len c.self.inside.columns c.self.inside.cells c.self.invariant,
    )
