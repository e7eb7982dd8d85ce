use Rattle.std.proofs.Common.{◌≡◌, ◌++◌}
use Rattle.csv.specs.Records.{fields_of}
use Rattle.dp_records.specs.Records.{added_cells, is_header}
use Rattle.dp_records.proofs.ReaderSteps.{taken-none, taken-more, taken-end, taken-most}
use Rattle.dp_records.proofs.cells.cells_up_to.Goals as goal

pub loop-turn-init : goal.loop-turn-init
loop-turn-init c = rw c.new-cells.ensures (taken-none _ c.args.text.now c.args.most c.args.columns c.args.header (c.text_reader-reader.ensures c.args.most))

pub loop-turn-preserved : goal.loop-turn-preserved
loop-turn-preserved c =
    let gives = c.loop-turn.invariant.gives in
    let read = c.in-Ok-true.ensures.reads gives.untrimmed gives.ready in
    let added : c.push_record.new.cells ≡ c.loop-turn.cells ++ added_cells (is_header c.loop-turn.turn c.args.header) c.args.columns (fields_of c.read_byte_record.new.row) =
    rw c.is_header.ensures at (c.in_ok-push_record-in-Ok-true.ensures) in
    taken-more c.loop-turn.reader _ _ c.loop-turn.turn c.args.most c.args.columns c.args.header _ _ _ c.loop-turn.invariant c.loop-turn-test.true added
    (rw c.in-Ok-true.field-0-test at read) (c.in-Ok-true.ensures.reads_on c.in-Ok-true.field-0-test)

pub returns-in-Ok-false : goal.returns-in-Ok-false
returns-in-Ok-false c =
    let gives = c.loop-turn.invariant.gives in
    let read = c.in-Ok-false.ensures.reads gives.untrimmed gives.ready in
    taken-end c.loop-turn.reader c.read_byte_record.new.self _ c.loop-turn.turn c.args.most c.args.columns c.args.header _ _ c.loop-turn.invariant (rw c.in-Ok-false.field-0-test at read)

pub returns : goal.returns
returns c = taken-most c.loop-turn.reader c.loop-turn.turn c.args.most c.args.columns c.args.header _ _ c.loop-turn.invariant c.loop-turn-test.false
