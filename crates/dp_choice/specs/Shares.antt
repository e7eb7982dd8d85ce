-- Shares of the draws by weight, and the place that a draw chooses.
use Rattle.std.specs.Prelude.{ℕ, zero, suc, ◌*◌, ◌/◌, Bool, List, [], ◌∷◌, length, take, if◌then◌else◌, nat_le}
use Rattle.std.specs.List.{sum}

-- the share of n draws that the first j weights have, rounded down
abbrev pub share : ℕ → List ℕ → ℕ → ℕ
share n ws j = n * sum (take j ws) / sum ws

-- the last number below a bound that meets a test, or 0
unfoldable pub last_below : ℕ → (ℕ → Bool) → ℕ
last_below zero test = 0
last_below (suc n) test = if test n then n else last_below n test

-- the last place before which the weights' share is at most the draw
unfoldable pub chosen : ℕ → List ℕ → ℕ → ℕ
chosen n ws draw = last_below (length ws) (λ j. nat_le (share n ws j) draw)

-- the choice of a draw list of one draw
abbrev pub chosen_by : ℕ → List ℕ → List ℕ → ℕ
chosen_by n ws [] = 0
chosen_by n ws (draw ∷ draws) = chosen n ws draw
