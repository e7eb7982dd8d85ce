-- All draw lists of a shape, as a list. It is for laws and small shapes: nothing computes it on a shape that is drawn.
use Rattle.std.specs.Prelude.{ℕ, zero, suc, List, [], ◌∷◌, ◌++◌, map}

-- the lists of f at the numbers below a bound, in order and joined
unfoldable pub joined_below : {X : Type 0} → ℕ → (ℕ → List X) → List X
joined_below zero f = []
joined_below (suc n) f = joined_below n f ++ f n

-- each first draw, in order, before each draw list of the rest of the shape
unfoldable pub draw_lists : List ℕ → List (List ℕ)
draw_lists [] = [] ∷ []
draw_lists (bound ∷ shape) = joined_below bound (λ draw. map (λ draws. draw ∷ draws) (draw_lists shape))
