use Rattle.std.specs.Io.KnownBytes.{Keeps}
use Rattle.dp_io.proofs.retrying.read_retrying.Given as goal

abbrev pub invariant-loop-retry : goal.invariant-loop-retry
invariant-loop-retry g l = Keeps (g.R.Read.remaining l.initial.reader) (g.R.Read.remaining l.reader)
