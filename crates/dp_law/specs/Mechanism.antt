-- A measurement as what it means: a domain with a metric, a ratio, a shape of draws, a function, and a privacy map.
use Rattle.std.specs.Prelude.{◌≡◌, ℕ, ◌^◌, ◌≤◌, ◌<◌, List, length, Option, Some, All}
use Rattle.dp_count.specs.DrawLists.{count, IsDrawList}
use Rattle.dp_count.specs.Ratios.{KeepsRatio}
use Rattle.dp_domain.specs.declared.domains.Domain.{Domain}
use Rattle.dp_domain.specs.declared.metrics.Metric.{Metric}
use Rattle.dp_domain.specs.declared.values.Value.{Value}
use Rattle.dp_domain.specs.Domains.{Fits, Has}
use Rattle.dp_num.specs.Limits.{Fraction}
use Rattle.dp_domain.specs.Metrics.{Within, SuitsMetric}
use Rattle.dp_law.specs.declared.pieces.Piece.{Piece}
use Rattle.dp_law.specs.AnswerEquality.{same_answer}

-- the function goes from a value and a draw list of the shape to an answer; the privacy map gives the loss in units
-- between values within a distance: at most 2 ^ 32, or None where the measurement states no loss
pub record Mechanism : Type 0 where
  pub input_domain : Domain
  pub input_metric : Metric
  pub ratio : Fraction
  pub shape : List ℕ
  pub function : Value → List ℕ → List Piece
  pub pieces : ℕ
  pub privacy_map : ℕ → Option ℕ

-- how many draw lists give the answer on the value
unfoldable pub ways : Mechanism → Value → List Piece → ℕ
ways m v answer = count m.shape (λ draws. same_answer (m.function v draws) answer)

-- a bound that a draw source takes
abbrev pub IsBound : ℕ → Type 0
IsBound bound = (1 ≤ bound) × (bound ≤ 2 ^ 62)

-- the two numbers of a ratio below 1
abbrev pub IsBelowOne : ℕ → ℕ → Type 0
IsBelowOne p q = (1 ≤ p) × (p < q) × (q ≤ 65536)

-- the domain fits, the metric is used with it, shape and answers keep their limits, and for values within d the numbers
-- of draw lists of every answer keep the ratio at the privacy map of d
pub record IsPrivate (m : Mechanism) : Type 0 where
  pub input_fits : Fits m.input_domain
  pub input_suits : SuitsMetric m.input_domain m.input_metric
  pub below_one : IsBelowOne m.ratio.p m.ratio.q
  pub few_draws : length m.shape ≤ 2 ^ 40
  pub bounds : All IsBound m.shape
  pub few_pieces : m.pieces ≤ 2 ^ 31
  pub whole : (v : Value) (draws : List ℕ) → Has m.input_domain v → IsDrawList m.shape draws
      → length (m.function v draws) ≡ m.pieces
  pub limited : (d k : ℕ) → m.privacy_map d ≡ Some k → k ≤ 2 ^ 32
  pub private : (d k : ℕ) (v w : Value) (answer : List Piece) → m.privacy_map d ≡ Some k → Has m.input_domain v
      → Has m.input_domain w
      → Within m.input_metric d v w → KeepsRatio m.ratio.p m.ratio.q k (ways m v answer) (ways m w answer)
