use Rattle.dp_records.specs.Records.{all_cells, records_up_to}
use Rattle.dp_records.proofs.ReaderSteps.{HasTaken}
use Rattle.dp_records.proofs.cells.cells_up_to.Given as goal

abbrev pub invariant-loop-turn : goal.invariant-loop-turn
invariant-loop-turn l = HasTaken l.reader l.turn l.most l.columns l.header l.cells (all_cells (records_up_to l.most l.columns l.header l.text))
