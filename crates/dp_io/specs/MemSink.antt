-- A sink in memory.
use Rattle.std.specs.Prelude.{ℕ, List, ◌++◌, length, nat_le}
use Rattle.dp_io.specs.Calls.{CallCounts, after_call}

-- the greatest number of bytes of one write and of all, what is held, and the calls
pub record SinkValue : Type 0 where
  pub piece : ℕ
  pub cap : ℕ
  pub bytes : List ℕ
  pub calls : CallCounts

-- the sink after a write that took these bytes; the write fails where the sink is full
abbrev pub after_write : SinkValue → List ℕ → SinkValue
after_write sink bytes = record {
  piece = sink.piece;
  cap = sink.cap;
  bytes = sink.bytes ++ bytes;
  calls = after_call (nat_le sink.cap (length sink.bytes)) sink.calls;
}
