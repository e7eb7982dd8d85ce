-- What a disk over a real file tells.
use Rattle.std.specs.Prelude.{ℕ, ◌+◌, ◌-◌, ◌^◌, min, Bool}

-- whether it has an open file, and how many calls failed
pub record FileCounts : Type 0 where
  pub has_file : Bool
  pub failed : ℕ

-- a count after one more; it stands still at 2 ^ 64 - 1
abbrev pub one_more : ℕ → ℕ
one_more n = min (n + 1) (2 ^ 64 - 1)
