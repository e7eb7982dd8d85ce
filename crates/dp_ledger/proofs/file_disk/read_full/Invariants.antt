use Rattle.std.proofs.Common.{◌≤◌, length}
use Rattle.dp_ledger.proofs.file_disk.read_full.Given as goal

abbrev pub invariant-loop : goal.invariant-loop
invariant-loop g l = l.n ≤ length l.buf
