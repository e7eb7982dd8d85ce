-- What a release of one draw, or of none, leaves of its source.
use Rattle.std.proofs.Common.{◌≡◌, ℕ, List, [], ◌∷◌, Option, refl, sym, ◌∙◌, ap}
use Rattle.std.specs.Option.{option_map}
use Rattle.dp_draws.specs.Taking.{Turn, take_draws}
use Rattle.dp_draws.proofs.Taking.{take_draws-none, take_draws-one}
use Rattle.dp_law.specs.Releasing.{TakesFront}

-- one draw, whose bound is the shape's
pub take_draws-turn : (step : List ℕ → ℕ → Turn) (state next : List ℕ) (bound given : ℕ) (draw : Option ℕ) → given ≡ bound → step state given ≡ record { draw = draw; next = next } →
    take_draws step state (bound ∷ []) ≡ record { draws = option_map (λ d. d ∷ []) draw; last = next }
take_draws-turn step state next bound given draw same turn =
    ap (λ (b : ℕ). take_draws step state (b ∷ [])) (sym same) ∙ take_draws-one step state given ∙ ap (λ (t : Turn). record { draws = option_map (λ d. d ∷ []) t.draw; last = t.next }) turn

-- no draw at all
pub takes-nothing : (step : List ℕ → ℕ → Turn) (shape state : List ℕ) → TakesFront step shape state state
takes-nothing step shape state = ([], shape, [], refl, take_draws-none step state)
