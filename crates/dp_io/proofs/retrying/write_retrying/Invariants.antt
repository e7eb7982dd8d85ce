use Rattle.std.specs.Io.KnownBytes.{Keeps}
use Rattle.dp_io.proofs.retrying.write_retrying.Given as goal

abbrev pub invariant-loop-retry : goal.invariant-loop-retry
invariant-loop-retry g l = Keeps (g.W.Write.contents l.initial.writer) (g.W.Write.contents l.writer)
