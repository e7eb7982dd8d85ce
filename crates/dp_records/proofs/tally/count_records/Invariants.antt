use Rattle.std.proofs.Common.{length}
use Rattle.dp_records.specs.RawRecords.{raw_up_to}
use Rattle.dp_records.proofs.ReaderSteps.{HasGiven}
use Rattle.dp_records.proofs.tally.count_records.Given as goal

abbrev pub invariant-loop-count : goal.invariant-loop-count
invariant-loop-count l = HasGiven l.reader l.count l.most (length (raw_up_to l.most l.text))
