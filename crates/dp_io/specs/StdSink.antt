-- What a sink over a writer of the standard library shows.
use Rattle.std.specs.Prelude.{ℕ, List, Option}

-- the bytes that the writer holds, where it tells them, and how many calls failed
pub record WriterState : Type 0 where
  pub bytes : Option (List ℕ)
  pub failed : ℕ
