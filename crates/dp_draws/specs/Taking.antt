-- Taking draws. A draw source goes from a state and a bound to a draw below it, or to a failure, and to the next state.
use Rattle.std.specs.Prelude.{ℕ, List, [], ◌∷◌, Option, Some, None, option_map}

-- what a source gives for one bound: the draw, or None where it fails, and the next state
pub record Turn : Type 0 where
  pub draw : Option ℕ
  pub next : List ℕ

-- what a source gives for a shape: the draws, or None where one of them fails, and the last state
pub record Taken : Type 0 where
  pub draws : Option (List ℕ)
  pub last : List ℕ

-- one draw, and what is taken after it
abbrev pub put_first : ℕ → Taken → Taken
put_first draw taken = record { draws = option_map (λ draws. draw ∷ draws) taken.draws; last = taken.last }

-- after a draw the rest is taken from the next state; after a failure nothing is
abbrev pub going_on : Option ℕ → List ℕ → (List ℕ → Taken) → Taken
going_on None next rest = record { draws = None; last = next }
going_on (Some draw) next rest = put_first draw (rest next)

abbrev pub goes_on : Turn → (List ℕ → Taken) → Taken
goes_on turn rest = going_on turn.draw turn.next rest

-- the step is applied to each bound of the shape in order, up to the first failure
unfoldable pub take_draws : (List ℕ → ℕ → Turn) → List ℕ → List ℕ → Taken
take_draws step state [] = record { draws = Some []; last = state }
take_draws step state (bound ∷ shape) = goes_on (step state bound) (λ next. take_draws step next shape)
