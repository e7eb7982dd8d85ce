use Rattle.std.proofs.Common.{◌<◌, length}
use Rattle.dp_io.proofs.tests.lines.reads_lines.Given as goal

abbrev pub invariant-loop-line : goal.invariant-loop-line
invariant-loop-line l = l.lines.slot < length l.shelf.rests
