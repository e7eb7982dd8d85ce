-- Counts of faults, which never fall and stand still at their greatest value, 2 ^ 64 - 1.
use Rattle.std.specs.Prelude.{◌≡◌, ℕ, ◌+◌, ◌-◌, ◌^◌, ◌<◌, ◌≤◌, min, Result, OnOk, OnErr}

-- the count is greater than before, or stands at its greatest value
abbrev pub Rose : ℕ → ℕ → Type 0
Rose before now = min (before + 1) (2 ^ 64 - 1) ≤ now

-- the count did not rise
abbrev pub Still : ℕ → ℕ → Type 0
Still before now = now < min (before + 1) (2 ^ 64 - 1)

-- the count did not fall, a call that succeeds left it as it was, and one that answers an error made it rise
pub record HasCause {T E : Type 0} (before now : ℕ) (result : Result T E) : Type 0 where
  pub later : before ≤ now
  pub kept : OnOk result (now ≡ before)
  pub failed : OnErr result (Rose before now)
