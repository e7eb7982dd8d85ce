-- The draw lists of a shape. A shape is a list of bounds, each at least 1. A draw list of it is a list of numbers as
-- long as the shape, each number below the bound at its place.
use Rattle.std.specs.Prelude.{ℕ, zero, suc, ◌+◌, ◌<◌, Bool, cond, nat_lt, List, [], ◌∷◌}
use Rattle.std.specs.List.{prefix_len}

-- the sum of f over the numbers below a bound
unfoldable pub sum_below : ℕ → (ℕ → ℕ) → ℕ
sum_below zero f = 0
sum_below (suc n) f = sum_below n f + f n

-- how many draw lists of a shape meet a test
unfoldable pub count : List ℕ → (List ℕ → Bool) → ℕ
count [] test = cond (test []) 1 0
count (bound ∷ shape) test = sum_below bound (λ draw. count shape (λ draws. test (draw ∷ draws)))

-- the draws are a draw list of the shape
unfoldable pub IsDrawList : List ℕ → List ℕ → Type 0
IsDrawList [] [] = Unit {0}
IsDrawList [] (draw ∷ draws) = ⊥
IsDrawList (bound ∷ shape) [] = ⊥
IsDrawList (bound ∷ shape) (draw ∷ draws) = (draw < bound) × IsDrawList shape draws

-- how many draws stand before the first that is not below low
abbrev pub leading_run : ℕ → List ℕ → ℕ
leading_run low draws = prefix_len (λ draw. nat_lt draw low) draws
