use Rattle.std.proofs.Common.{◌^◌, List, ℕ, ap, ◌∙◌}
use Rattle.dp_records.proofs.RowCells.{rows-are, records-AllOf}
use Rattle.dp_store.specs.Stores.{StoreValue}
use Rattle.dp_store.proofs.store.store_of.Goals as goal

pub returns : goal.returns
returns c =
    let with_rows : List (List (List ℕ)) → StoreValue = λ rows. record { columns = c.args.columns; records = rows } in
    c.from_cells.ensures ∙ ap with_rows (rows-are c.args.columns _ _ c.requires.some (records-AllOf (2 ^ 30) c.args.columns c.args.header c.args.bytes.now) c.in_ok-cells.ensures.cells)
