use Rattle.std.proofs.Common.{arith}
use Rattle.dp_records.proofs.ReaderSteps.{given-none, given-more, given-end, given-most}
use Rattle.dp_records.proofs.tally.count_records.Goals as goal

pub loop-count-init : goal.loop-count-init
loop-count-init c = given-none _ c.args.text.now c.args.most (c.text_reader-reader.ensures c.args.most)

pub loop-count-preserved : goal.loop-count-preserved
loop-count-preserved c =
    let gives = c.loop-count.invariant.gives in
    let read = c.in-Ok-true.ensures.reads gives.untrimmed gives.ready in
    given-more c.loop-count.reader _ _ c.loop-count.count c.args.most _ c.loop-count.invariant c.loop-count-test.true (rw c.in-Ok-true.field-0-test at read) (c.in-Ok-true.ensures.reads_on c.in-Ok-true.field-0-test)

pub returns-in-Ok-false-clause-records : goal.returns-in-Ok-false-clause-records
returns-in-Ok-false-clause-records c =
    let gives = c.loop-count.invariant.gives in
    let read = c.in-Ok-false.ensures.reads gives.untrimmed gives.ready in
    given-end c.loop-count.reader c.read_byte_record.new.self _ c.loop-count.count c.args.most _ c.loop-count.invariant (rw c.in-Ok-false.field-0-test at read)

pub returns-clause-records : goal.returns-clause-records
returns-clause-records c = omega (arith, given-most c.loop-count.reader c.loop-count.count c.args.most _ c.loop-count.invariant c.loop-count-test.false)
