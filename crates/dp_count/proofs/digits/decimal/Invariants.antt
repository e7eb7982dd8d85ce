use Rattle.std.proofs.Common.{◌≡◌, ◌<◌, ◌^◌, drop}
use Rattle.dp_count.proofs.Spelling.{spelled}
use Rattle.dp_count.proofs.digits.decimal.Given as goal

abbrev pub invariant-loop-byte : goal.invariant-loop-byte
invariant-loop-byte l = (spelled l.number (drop l.byte-index l.bytes) ≡ spelled 0 l.bytes) × (l.number < 2 ^ 64)
