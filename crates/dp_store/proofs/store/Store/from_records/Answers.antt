use Rattle.std.proofs.Common.{◌≡◌, ap, ◌∙◌}
use Rattle.dp_domain.specs.declared.values.Value.TheVariants as value
use Rattle.dp_records.specs.Records.{all_cells}
use Rattle.dp_records.proofs.RowCells.{whole-records, rows-are}
use Rattle.dp_store.specs.Stores.{StoreValue}
use Rattle.dp_store.proofs.store.Store.from_records.Goals as goal

pub from_cells-requires-clause-whole : goal.from_cells-requires-clause-whole
from_cells-requires-clause-whole c =
    let within = c.requires.within in
    let has = rw c.in-Rows.is at within in
    rw (c.in_ok-cells.ensures, c.as_slice.ensures) (whole-records c.args.columns c.in-Rows.rows c.requires.fits.0 has.1 has.0)

pub returns-clause-records : goal.returns-clause-records
returns-clause-records c =
    let within = c.requires.within in
    let has = rw c.in-Rows.is at within in
    let cells : c.in_ok-cells.cells ≡ all_cells c.in-Rows.rows = rw c.as_slice.ensures at c.in_ok-cells.ensures in
    rw c.in-Rows.is (ap value.Rows (ap (λ (s : StoreValue). s.records) c.from_cells.ensures ∙ rows-are c.args.columns c.in_ok-cells.cells c.in-Rows.rows c.requires.fits.0 has.1 cells))
