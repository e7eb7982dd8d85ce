use Rattle.std.proofs.Common.{◌≡◌, vec_len}
use Rattle.std.specs.List.{All}
use Rattle.dp_ledger.specs.MemDisk.{IsBlank}
use Rattle.dp_ledger.proofs.blanks.new_blanks.Given as goal

abbrev pub invariant-loop-n : goal.invariant-loop-n
invariant-loop-n l = record { count : vec_len l.blanks ≡ l._n; blank : All (IsBlank l.cap) l.blanks.items }
