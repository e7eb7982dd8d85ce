-- The draws of each source are below the bound.
use Rattle.std.specs.Prelude.{ℕ, zero, suc, ◌≡◌, ◌<◌, List, [], ◌∷◌, Some}
use Rattle.std.proofs.Common.{arith}
use Rattle.std.proofs.lemmas.Bool.Decides.{nat_tests}
use Rattle.dp_draws.specs.Taking.{Turn}
use Rattle.dp_draws.specs.Sources.{replay_step, no_step, zeros_step, fail_at_step}

pub replay_below : (state : List ℕ) (bound number : ℕ) → 0 < bound → (replay_step state bound).draw ≡ Some number
    → number < bound
replay_below [] bound number positive taken = absurd (cc)
replay_below (first ∷ rest) bound number positive taken = grind (arith, nat_tests)

pub nothing_below : (state : List ℕ) (bound number : ℕ) → 0 < bound → (no_step state bound).draw ≡ Some number
    → number < bound
nothing_below state bound number positive taken = absurd (cc)

pub zeros_below : (state : List ℕ) (bound number : ℕ) → 0 < bound → (zeros_step state bound).draw ≡ Some number
    → number < bound
zeros_below state bound number positive taken = grind arith

pub fail_at_below : (step : List ℕ → ℕ → Turn)
    → ((state : List ℕ) (bound number : ℕ) → 0 < bound → (step state bound).draw ≡ Some number → number < bound)
    → (state : List ℕ) (bound number : ℕ) → 0 < bound → (fail_at_step step state bound).draw ≡ Some number
    → number < bound
fail_at_below step below [] bound number positive taken = absurd (cc)
fail_at_below step below (zero ∷ inner) bound number positive taken = absurd (cc)
fail_at_below step below (suc calls ∷ inner) bound number positive taken = below inner bound number positive taken
