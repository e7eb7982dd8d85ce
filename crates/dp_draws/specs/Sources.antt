-- The steps of the draw sources.
use Rattle.std.specs.Prelude.{ℕ, zero, suc, List, [], ◌∷◌, Some, None, if◌then◌else◌, nat_lt}
use Rattle.dp_draws.specs.Taking.{Turn}

-- the next number of a list, where it is below the bound; else a failure, and the list stays
abbrev pub replay_step : List ℕ → ℕ → Turn
replay_step [] bound = record { draw = None; next = [] }
replay_step (number ∷ numbers) bound = if nat_lt number bound
    then record { draw = Some number; next = numbers }
    else record { draw = None; next = number ∷ numbers }

-- a failure always
abbrev pub no_step : List ℕ → ℕ → Turn
no_step state bound = record { draw = None; next = state }

-- 0 always
abbrev pub zeros_step : List ℕ → ℕ → Turn
zeros_step state bound = record { draw = Some 0; next = state }

-- the step of a source behind a number of calls: while there are any, a call uses one of them and is passed on; then
-- every call is a failure, and the state stays. A state begins with that number; the empty list is none.
abbrev pub fail_at_step : (List ℕ → ℕ → Turn) → List ℕ → ℕ → Turn
fail_at_step step [] bound = record { draw = None; next = [] }
fail_at_step step (zero ∷ inner) bound = record { draw = None; next = zero ∷ inner }
fail_at_step step (suc calls ∷ inner) bound =
    record { draw = (step inner bound).draw; next = calls ∷ (step inner bound).next }
