-- How far apart two numbers are.
use Rattle.std.specs.Prelude.{ℕ, ◌+◌, ◌-◌}

-- the absolute difference of two numbers
abbrev pub apart : ℕ → ℕ → ℕ
apart a b = (a - b) + (b - a)
