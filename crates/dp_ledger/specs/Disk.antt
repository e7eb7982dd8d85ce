-- What the calls of a disk do to its content, and what a crash may leave between two syncs.
use Rattle.std.specs.Prelude.{◌≡◌, ◌⊎◌, ℕ, ◌+◌, ◌-◌, ◌≤◌, min, max, List, ◌++◌, length, take, drop, replicate, Option, Some}

-- the content with these bytes at this place; a gap before them is filled with zeros
unfoldable pub put_at : ℕ → List ℕ → List ℕ → List ℕ
put_at at bytes was = take at was ++ replicate (at - length was) 0 ++ bytes ++ drop (at + length bytes) was

-- n is how far the content reaches into the buffer from this place on, and the buffer's front has the bytes there
pub record Fills (content : List ℕ) (at n : ℕ) (buffer : List ℕ) : Type 0 where
  pub count : n ≡ min (length buffer) (length content - at)
  pub bytes : take n buffer ≡ take n (drop at content)

-- n bytes from a place on, and all past the old end up to their end, may be any bytes; the others are as they were
pub record Torn (at n : ℕ) (was now : List ℕ) : Type 0 where
  pub before : take (min at (length was)) now ≡ take (min at (length was)) was
  pub after : drop (at + n) now ≡ drop (at + n) was
  pub no_shorter : length was ≤ length now
  pub no_longer : length now ≤ max (length was) (at + n)

-- what is told now is what was, with n bytes from a place on torn
abbrev pub BecomesTorn : ℕ → ℕ → List ℕ → Option (List ℕ) → Type 0
BecomesTorn at n was told = (now : List ℕ) × (told ≡ Some now) × Torn at n was now

-- a crash leaves this content and no other
abbrev pub Only : List ℕ → (List ℕ → Type 0) → Type 0
Only content outcomes = (c : List ℕ) → outcomes c → c ≡ content

-- each new outcome of a crash is an old outcome after a step
abbrev pub Follows : (List ℕ → List ℕ → Type 0) → (List ℕ → Type 0) → (List ℕ → Type 0)
    → Type 0
Follows step old new = (c : List ℕ) → new c → (d : List ℕ) × old d × step d c

-- a crash leaves one of the old outcomes, with n bytes from a place on torn
abbrev pub LeavesTorn : (List ℕ → Type 0) → ℕ → ℕ → List ℕ → Type 0
LeavesTorn outcomes at n c = (d : List ℕ) × outcomes d × Torn at n d c

-- a crash may leave what it might have left before, and nothing else
pub record SameOutcomes (old new : List ℕ → Type 0) : Type 0 where
  pub no_more : (c : List ℕ) → new c → old c
  pub no_fewer : (c : List ℕ) → old c → new c

-- time goes on: a crash since t may have left what it might have left before, or what it may leave now
pub record Elapses (before now : ℕ) (past since : ℕ → List ℕ → Type 0)
    (may_leave : List ℕ → Type 0) : Type 0 where
  pub later : before ≤ now
  pub nothing_else : (t : ℕ) (c : List ℕ) → t ≤ before → since t c → past t c ⊎ may_leave c
  pub keeps : (t : ℕ) (c : List ℕ) → t ≤ before → past t c → since t c

-- a crash at any moment from the old disk on leaves a content that has P
pub record LeavesOnly {D : Type 0} (moment : D → ℕ) (left_since : D → ℕ → List ℕ → Type 0)
    (old new : D) (P : List ℕ → Type 0) : Type 0 where
  pub later : moment old ≤ moment new
  pub each : (c : List ℕ) → left_since new (moment old) c → P c
  -- for a run that began earlier
  pub before : (t : ℕ) (c : List ℕ) → t ≤ moment old → left_since new t c → left_since old t c ⊎ P c
