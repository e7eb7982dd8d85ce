-- A shape as its list of bounds, which is kept as runs of one bound.
use Rattle.std.specs.Prelude.{◌≡◌, ℕ, ◌^◌, ◌≤◌, List, [], ◌∷◌, ◌++◌, length, replicate}
use Rattle.std.specs.List.{All}
use Rattle.dp_count.specs.declared.shape.Run.{Run}

-- the bounds of runs, in order
unfoldable pub bounds : List Run → List ℕ
bounds [] = []
bounds (run ∷ runs) = replicate run.times run.bound ++ bounds runs

-- the greatest length of a shape
abbrev pub most_draws : ℕ
most_draws = 2 ^ 40

-- how many bounds the runs have, and that each is at least 1
pub record AreRuns (runs : List Run) (len : ℕ) : Type 0 where
  pub counted : len ≡ length (bounds runs)
  pub few : len ≤ most_draws
  pub positive : All (λ bound. 1 ≤ bound) (bounds runs)
