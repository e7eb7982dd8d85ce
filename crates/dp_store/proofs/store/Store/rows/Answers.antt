use Rattle.std.specs.Prelude.{All}
use Rattle.std.proofs.Common.{◌≡◌, length}
use Rattle.dp_store.proofs.StoredCells.{stored-AllOf}
use Rattle.dp_store.proofs.ChosenRows.{selected-Has}
use Rattle.dp_store.proofs.store.Store.rows.Goals as goal

pub returns-clause-within : goal.returns-clause-within
returns-clause-within c =
    let each : All (λ cells. length cells ≡ c.args.self.now.columns) c.args.self.now.records =
    rw (← c.self.view_is) (stored-AllOf c.self.inside.len c.self.inside.columns c.self.inside.cells c.self.invariant) in
    rw c.in_ok-rows.ensures (selected-Has c.args.self.now.columns c.args.self.now.records c.args.base.now each c.requires)
