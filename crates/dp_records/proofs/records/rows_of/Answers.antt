use Rattle.std.proofs.Common.{rules}
use Rattle.dp_records.proofs.RowCells.{rows_of-none, rows_of-more}
use Rattle.dp_records.proofs.records.rows_of.Goals as goal

pub loop-place-init : goal.loop-place-init
loop-place-init c = rw (rows_of-none c.args.columns c.args.cells.now) c.new-rows.ensures.items

pub loop-place-preserved : goal.loop-place-preserved
loop-place-preserved c = rw (rows_of-more c.loop-place.place c.args.columns c.args.cells.now) (search rules)
