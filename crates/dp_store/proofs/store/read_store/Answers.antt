use Rattle.std.proofs.Common.{◌^◌, ap, ◌∙◌}
use Rattle.dp_records.proofs.RowCells.{rows-are, records-AllOf}
use Rattle.dp_store.specs.Stores.{StoreValue}
use Rattle.dp_store.proofs.store.read_store.Goals as goal

pub returns-clause-records : goal.returns-clause-records
returns-clause-records g c = λ left is.
    ap (λ (s : StoreValue). s.records) c.from_cells.ensures
    ∙ rows-are c.args.columns _ _ c.requires.some (records-AllOf (2 ^ 30) c.args.columns c.args.header left) (c.in_ok-cells.ensures.cells left is)
