-- One cell of truncated geometric noise.
use Rattle.std.specs.Prelude.{ℕ, ◌+◌, ◌-◌, ℤ, pos, neg_ℤ, ◌+ℤ◌, ◌-ℤ◌, nat_abs, List, [], ◌∷◌, replicate, if◌then◌else◌, nat_lt}
use Rattle.dp_domain.specs.Ranges.{clamped}
pub use Rattle.dp_count.specs.DrawLists.{leading_run}

-- the least and the greatest answer of a cell, and the two numbers of the ratio low / high
pub record CellNumbers : Type 0 where
  pub lo : ℤ
  pub hi : ℤ
  pub low : ℕ
  pub high : ℕ

-- how many answers there are beside the least one
abbrev pub width : CellNumbers → ℕ
width cell = nat_abs (cell.hi -ℤ cell.lo)

-- one first draw below high + low, then as many run draws below high as the width says
abbrev pub cell_shape : CellNumbers → List ℕ
cell_shape cell = (cell.high + cell.low) ∷ replicate (width cell) cell.high

-- no noise for a first draw below high - low; else one more than the leading run, up for one below high, else down
abbrev pub noise : CellNumbers → ℕ → ℕ → ℤ
noise cell first run = if nat_lt first (cell.high - cell.low) then pos 0
    else if nat_lt first cell.high then pos (1 + run)
    else neg_ℤ (pos (1 + run))

-- the answer on the value v, from a draw list of the shape: the clamped value with its noise, clamped
unfoldable pub cell_out : CellNumbers → ℤ → List ℕ → ℤ
cell_out cell v [] = clamped cell.lo cell.hi v
cell_out cell v (first ∷ run) =
    clamped cell.lo cell.hi (clamped cell.lo cell.hi v +ℤ noise cell first (leading_run cell.low run))
