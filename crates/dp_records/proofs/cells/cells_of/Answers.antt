use Rattle.dp_records.proofs.RowCells.{whole-cells}
use Rattle.dp_records.proofs.cells.cells_of.Goals as goal

pub returns-clause-whole : goal.returns-clause-whole
returns-clause-whole c = whole-cells c.args.columns c.args.header c.args.bytes.now c.cells_up_to.result c.requires.some c.cells_up_to.ensures
