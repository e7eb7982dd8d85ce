-- Ranges of numbers: tests of their bounds, and the number of a range that is nearest to one.
use Rattle.std.specs.Prelude.{ℕ, ℤ, pos, neg_ℤ, ◌-ℤ◌, ◌≤ℤ◌, ◌&&◌, Bool, int_le}
use Rattle.std.specs.Int.{int_min, int_max}
use Rattle.dp_domain.specs.Domains.{number_limit, most_width}

-- the number is from -limit to limit
abbrev pub is_within : ℤ → ℤ → Bool
is_within limit z = int_le (neg_ℤ limit) z && int_le z limit

-- a range that is not empty, with bounds from -limit to limit
abbrev pub is_range : ℕ → ℤ → ℤ → Bool
is_range limit lo hi = int_le (neg_ℤ (pos limit)) lo && int_le lo hi && int_le hi (pos limit)

-- a range of at most 65,536 numbers, which is not empty
abbrev pub is_narrow : ℤ → ℤ → Bool
is_narrow lo hi = int_le lo hi && int_le (hi -ℤ lo) (pos most_width)

-- such a range from -2 ^ 61 to 2 ^ 61
abbrev pub is_narrow_range : ℤ → ℤ → Bool
is_narrow_range lo hi = is_range number_limit lo hi && is_narrow lo hi

-- the same as a fact
pub record IsNarrowRange (lo hi : ℤ) : Type 0 where
  pub least : neg_ℤ (pos number_limit) ≤ℤ lo
  pub ordered : lo ≤ℤ hi
  pub greatest : hi ≤ℤ pos number_limit
  pub narrow : (hi -ℤ lo) ≤ℤ pos most_width

-- the number from lo to hi that is nearest to z: z itself, or the bound that it is past
abbrev pub clamped : ℤ → ℤ → ℤ → ℤ
clamped lo hi z = int_min (int_max z lo) hi
