use Rattle.std.proofs.Common.{append_assoc}
use Rattle.csv.specs.Records.{fields_of}
use Rattle.dp_records.specs.Records.{cut_or_pad}
use Rattle.dp_records.proofs.CutCells.{cut_or_pad-more}
use Rattle.dp_records.proofs.cells.push_cells.Goals as goal

pub loop-column-preserved : goal.loop-column-preserved
loop-column-preserved c =
    let fields = fields_of c.args.row.now in
    let more = cut_or_pad-more c.loop-column.column fields in
    rw (c.in_ok-push.ensures.ok, c.loop-column.invariant, c.cell_at.ensures, more) (append_assoc c.args.cells.now (cut_or_pad c.loop-column.column fields) _)
