-- The number of draw lists of one cell that give an answer, and the privacy of one cell.
use Rattle.std.specs.Prelude.{◌≡◌, ℕ, ◌+◌, ◌-◌, ◌*◌, ◌^◌, ◌≤◌, ℤ, ◌-ℤ◌, ◌<ℤ◌, nat_abs, ◌⊎◌}
use Rattle.std.specs.Ordering.{int_eq}
use Rattle.dp_count.specs.DrawLists.{count}
use Rattle.dp_domain.specs.Ranges.{clamped}
use Rattle.dp_geometric.specs.OneCell.{CellNumbers, width, cell_shape, cell_out}

-- how many draw lists give the answer a on the value v
unfoldable pub ways : CellNumbers → ℤ → ℤ → ℕ
ways cell v a = count (cell_shape cell) (λ draws. int_eq (cell_out cell v draws) a)

-- how far apart two numbers are
abbrev pub distance : ℤ → ℤ → ℕ
distance x y = nat_abs (x -ℤ y)

-- how far the answer is from the clamped value
abbrev pub away : CellNumbers → ℤ → ℤ → ℕ
away cell v a = distance (clamped cell.lo cell.hi v) a

-- the numbers of draw lists: between the ends, at the two ends, where there is one answer alone, and outside
pub record CellCounts (cell : CellNumbers) : Type 0 where
  pub inside : (v a : ℤ) → cell.lo <ℤ a → a <ℤ cell.hi → ways cell v a
      ≡ (cell.high - cell.low) * cell.low ^ away cell v a * cell.high ^ (width cell - away cell v a)
  pub ends : (v a : ℤ) → cell.lo <ℤ cell.hi → (a ≡ cell.lo) ⊎ (a ≡ cell.hi) → ways cell v a
      ≡ cell.high * cell.low ^ away cell v a * cell.high ^ (width cell - away cell v a)
  pub single : (v a : ℤ) → cell.lo ≡ cell.hi → a ≡ cell.lo → ways cell v a ≡ cell.high + cell.low
  pub outside : (v a : ℤ) → (a <ℤ cell.lo) ⊎ (cell.hi <ℤ a) → ways cell v a ≡ 0

-- for values at most e apart, the numbers of each answer differ by a factor of at most (high / low) ^ e
unfoldable pub CellPrivate : CellNumbers → Type 0
CellPrivate cell =
    (v w a : ℤ) (e : ℕ) → distance v w ≤ e → ways cell v a * cell.low ^ e ≤ cell.high ^ e * ways cell w a
