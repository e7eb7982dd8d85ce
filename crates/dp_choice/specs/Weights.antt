-- Weights of a vector's cells: with each step of a cell's score its weight grows by the ratio high / low.
use Rattle.std.specs.Prelude.{◌≡◌, ◌≤◌, ◌<◌, ℕ, zero, suc, ◌+◌, ◌-◌, ◌*◌, ◌/◌, ◌^◌, ◌&&◌, ℤ, ◌-ℤ◌, nat_abs, nat_le, int_lt, Bool, List, [], ◌∷◌, ◌++◌, map, Option, Some, None}
use Rattle.dp_domain.specs.Ranges.{is_narrow_range, clamped}

-- the numbers of a choice: how many cells a vector has and the range of their numbers, the range of the scores, and the
-- two numbers of the ratio low / high of the weights of a score and of the next
pub record ChoiceNumbers : Type 0 where
  pub len : ℕ
  pub least : ℤ
  pub most : ℤ
  pub floor : ℤ
  pub top : ℤ
  pub low : ℕ
  pub high : ℕ

-- the first weight at the score 0, and with each step of the score the weight times high / low, rounded down
unfoldable pub weight : ℕ → ℕ → ℕ → ℕ → ℕ
weight first low high zero = first
weight first low high (suc score) = weight first low high score * high / low

-- how far a number is above the floor, after it is brought into the range from the floor to the top
abbrev pub score : ChoiceNumbers → ℤ → ℕ
score c z = nat_abs (clamped c.floor c.top z -ℤ c.floor)

-- the weight of each cell's score
unfoldable pub weights : ℕ → ChoiceNumbers → List ℤ → List ℕ
weights first c cells = map (λ z. weight first c.low c.high (score c z)) cells

-- the weight of the greatest score
abbrev pub greatest : ℕ → ChoiceNumbers → ℕ
greatest first c = weight first c.low c.high (nat_abs (c.top -ℤ c.floor))

-- the weight of the score 0
abbrev pub first_weight : ℕ
first_weight = 65536

-- the bound of the draw
abbrev pub all_draws : ℕ
all_draws = 2 ^ 62

-- the weights of the scores from 0 to a greatest one
unfoldable pub weight_table : ℕ → ℕ → ℕ → ℕ → List ℕ
weight_table first low high zero = first ∷ []
weight_table first low high (suc s) = weight_table first low high s ++ weight first low high (suc s) ∷ []

-- the weight of the greatest score, or none where it is greater than the bound of the draw
abbrev pub IsGreatest : ℕ → ℕ → ℕ → ℕ → Option ℕ → Type 0
IsGreatest first low high most (Some greatest) = (greatest ≡ weight first low high most) × (greatest ≤ all_draws)
IsGreatest first low high most None = all_draws < weight first low high most

-- the range of the scores has more than one number and at most 65,536, from -2 ^ 61 to 2 ^ 61
abbrev pub is_score_range : ℤ → ℤ → Bool
is_score_range floor top = int_lt floor top && is_narrow_range floor top

-- the sum of the weights fits, and each cell's share leaves room for the rounding
abbrev pub weights_fit : ℕ → ℕ → ℕ → ℕ → Bool
weights_fit len most p q =
    nat_le (len * most) all_draws && nat_le (len * most * (q + p)) (all_draws * first_weight * (q - p))
