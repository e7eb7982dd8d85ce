-- Numbers that are refused past a limit.
use Rattle.std.specs.Prelude.{◌≡◌, ℕ, ◌+◌, ◌^◌, ◌≤◌, ◌<◌, ◌==◌, ◌&&◌, Bool, Option, Some, None, if◌then◌else◌, nat_lt, nat_le}
use Rattle.dp_count.specs.AtMost.{at_most}

-- the greatest number of units
abbrev pub most_units : ℕ
most_units = 2 ^ 32

-- a number of units, at most 2^32
abbrev pub capped : ℕ → Option ℕ
capped n = at_most most_units n

-- the two numbers of a ratio p / q
pub record Fraction : Type 0 where
  pub p : ℕ
  pub q : ℕ

-- p and q are the numbers of a ratio below 1
abbrev pub is_ratio : ℕ → ℕ → Bool
is_ratio p q = nat_le 1 p && nat_lt p q && nat_le q 65536

-- two powers, where their sum is at most 2^62
abbrev pub powers_within : ℕ → ℕ → Option (ℕ × ℕ)
powers_within low high = if nat_le (high + low) (2 ^ 62) then Some (low, high) else None

-- the powers of a ratio's numbers at u, at least 1, where their sum is at most 2^62
unfoldable pub powers : ℕ → ℕ → ℕ → Option (ℕ × ℕ)
powers p q u = if u == 0 then None else powers_within (p ^ u) (q ^ u)

-- what the two powers at u of a ratio's numbers p and q are: the numbers of a ratio again
pub record ArePowers (p q u : ℕ) (both : ℕ × ℕ) : Type 0 where
  pub low : both.0 ≡ p ^ u
  pub high : both.1 ≡ q ^ u
  pub positive : 1 ≤ both.0
  pub below_one : both.0 < both.1
  pub bounded : both.1 + both.0 ≤ 2 ^ 62
  pub few : u ≤ 62
