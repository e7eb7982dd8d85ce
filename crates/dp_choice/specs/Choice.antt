-- Weighted choice as a measurement.
use Rattle.std.specs.Prelude.{◌≡◌, ℕ, ◌+◌, ◌*◌, ◌==◌, ◌&&◌, ℤ, ◌-ℤ◌, nat_abs, Bool, true, false, List, [], ◌∷◌, Option, Some, None, Result, Ok, Err, if◌then◌else◌}
use Rattle.dp_num.specs.Limits.{Fraction, capped, powers}
use Rattle.dp_domain.specs.declared.domains.Domain.{Domain}
use Rattle.dp_domain.specs.declared.domains.Domain.TheVariants as domain
use Rattle.dp_domain.specs.declared.metrics.Metric.{Metric}
use Rattle.dp_domain.specs.declared.metrics.Metric.TheVariants as metrics
use Rattle.dp_domain.specs.declared.values.Value.{Value}
use Rattle.dp_domain.specs.declared.values.Value.TheVariants as value
use Rattle.dp_law.specs.declared.pieces.Piece.{Piece}
use Rattle.dp_law.specs.declared.pieces.Piece.TheVariants as piece
use Rattle.dp_law.specs.declared.refusals.Refused.{Refused}
use Rattle.dp_law.specs.declared.refusals.Refused.TheVariants as refused
use Rattle.dp_law.specs.Making.{with_powers, is_l1}
use Rattle.dp_law.specs.Mechanism.{Mechanism}
use Rattle.dp_choice.specs.Weights.{ChoiceNumbers, weights, greatest, first_weight, all_draws, weight_table, is_score_range, weights_fit}
use Rattle.dp_choice.specs.Shares.{chosen_by}

-- the category that is chosen on a value
abbrev pub choose : ℕ → ℕ → ChoiceNumbers → Value → List ℕ → List Piece
choose n first c (value.IntVec cells) draws = piece.Cat (chosen_by n (weights first c cells) draws) ∷ []
choose n first c _ draws = []

-- no loss at the distance 0; else 2 u d, and one unit for the rounding of the shares. It is about twice what is needed:
-- u d + 1 suffices by L1, since the chosen cell and the sum of the weights share the distance
abbrev pub choice_loss : ℕ → ℕ → Option ℕ
choice_loss u d = if d == 0 then Some 0 else capped (2 * u * d + 1)

-- one draw below n, the chosen category as one piece; the numbers' low and high are p and q to the power u
abbrev pub choice_of : ℕ → ℕ → Fraction → ℕ → ChoiceNumbers → Mechanism
choice_of n first ratio u c = record {
  input_domain = domain.IntVec c.len c.least c.most;
  input_metric = metrics.L1;
  ratio = ratio;
  shape = n ∷ [];
  function = choose n first c;
  pieces = 1;
  privacy_map = choice_loss u;
}

abbrev pub choice : Fraction → ℕ → ChoiceNumbers → Mechanism
choice = choice_of all_draws first_weight

-- the range of the scores is one, and the greatest of the weights fits
abbrev pub is_choice : Fraction → ChoiceNumbers → Bool
is_choice ratio c = is_score_range c.floor c.top && weights_fit c.len (greatest first_weight c) ratio.p ratio.q

-- the table of the weights, or none where there is no choice
abbrev pub IsFittingTable : Fraction → ChoiceNumbers → Option (List ℕ) → Type 0
IsFittingTable ratio c (Some table) =
    (table ≡ weight_table first_weight c.low c.high (nat_abs (c.top -ℤ c.floor))) × (is_choice ratio c ≡ true)
IsFittingTable ratio c None = is_choice ratio c ≡ false

-- the choice of these numbers, where the scores are in range and the weights fit
abbrev pub choice_if : Fraction → ℕ → ChoiceNumbers → Result Mechanism Refused
choice_if ratio u c = if is_choice ratio c then Ok (choice ratio u c) else Err refused.Bound

-- what weighted choice is on a domain and a metric
abbrev pub choice_from : Fraction → ℕ → ℤ → ℤ → Domain → Metric → Result Mechanism Refused
choice_from ratio u floor top (domain.IntVec len least most) metric = if is_l1 metric
    then with_powers (powers ratio.p ratio.q u) (λ both. choice_if ratio u (record {
      len = len;
      least = least;
      most = most;
      floor = floor;
      top = top;
      low = both.0;
      high = both.1;
    }))
    else Err refused.Metric
choice_from ratio u floor top _ metric = Err refused.Kind
