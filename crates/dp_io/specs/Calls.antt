-- The calls of an object in memory, some of which are to fail. Its counts stand still at 2 ^ 64 - 1.
use Rattle.std.specs.Prelude.{ℕ, ◌+◌, ◌-◌, ◌^◌, min, Bool, ◌||◌, ◌==◌, List, if◌then◌else◌}
use Rattle.std.specs.List.{list_any}

-- the numbers, from 1, of the calls that are to fail, how many calls were made, and how many failed
pub record CallCounts : Type 0 where
  pub fails : List ℕ
  pub made : ℕ
  pub failed : ℕ

-- what a counter of that value tells
abbrev pub counted : ℕ → ℕ
counted n = min n (2 ^ 64 - 1)

-- a count after one more
abbrev pub one_more : ℕ → ℕ
one_more n = min (n + 1) (2 ^ 64 - 1)

-- whether the next call is one that is to fail
abbrev pub fails_next : CallCounts → Bool
fails_next calls = list_any (λ number. number == one_more calls.made) calls.fails

-- the counts after one more call, which fails where it is refused or is to fail
abbrev pub after_call : Bool → CallCounts → CallCounts
after_call refused calls = record {
  fails = calls.fails;
  made = one_more calls.made;
  failed = if refused || fails_next calls then one_more calls.failed else calls.failed;
}
