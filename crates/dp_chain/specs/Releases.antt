-- Releases: parts on one input, each a line of stages and the noise on what it gives.
use Rattle.std.specs.Prelude.{◌≡◌, ℕ, ◌+◌, ◌^◌, ◌≤◌, List, [], ◌∷◌, ◌++◌, length, take, drop, Option, Some, None, Result, Ok, Err, if◌then◌else◌, nat_le}
use Rattle.dp_count.specs.Results.{◌>>=◌, on_ok}
use Rattle.dp_num.specs.Limits.{Fraction}
use Rattle.dp_domain.specs.declared.domains.Domain.{Domain}
use Rattle.dp_domain.specs.declared.metrics.Metric.{Metric}
use Rattle.dp_domain.specs.declared.values.Value.{Value}
use Rattle.dp_law.specs.declared.pieces.Piece.{Piece}
use Rattle.dp_law.specs.declared.refusals.Refused.{Refused}
use Rattle.dp_law.specs.Mechanism.{Mechanism}
use Rattle.dp_law.specs.Joining.{measured, added}
use Rattle.dp_chain.specs.declared.faults.CostFault.{CostFault}
use Rattle.dp_chain.specs.declared.faults.CostFault.TheVariants as cost
use Rattle.dp_chain.specs.declared.noise.Part.{Part}
use Rattle.dp_chain.specs.Lines.{line_on}
use Rattle.dp_chain.specs.Stages.{noise_on}

-- the line of the stages, and the noise made on the domain and the metric that the line gives
unfoldable pub part_on : Fraction → Part → Domain → Metric → Result Mechanism Refused
part_on ratio part domain metric = do
  line ← line_on part.stages domain metric
  noise ← noise_on ratio part.noise line.output_domain line.output_metric
  Ok (measured line noise)

-- the parts, made from first to last on one domain and metric; the first part that is refused decides
unfoldable pub parts_on : Fraction → List Part → Domain → Metric → Result (List Mechanism) Refused
parts_on ratio [] domain metric = Ok []
parts_on ratio (part ∷ parts) domain metric = do
  first ← part_on ratio part domain metric
  rest ← parts_on ratio parts domain metric
  Ok (first ∷ rest)

-- the shapes one after the other
unfoldable pub joined_shape : List Mechanism → List ℕ
joined_shape [] = []
joined_shape (first ∷ rest) = first.shape ++ joined_shape rest

-- the answers one after the other, each on its own part of the draws
unfoldable pub joined_answer : List Mechanism → Value → List ℕ → List Piece
joined_answer [] v draws = []
joined_answer (first ∷ rest) v draws =
    first.function v (take (length first.shape) draws) ++ joined_answer rest v (drop (length first.shape) draws)

-- all their pieces
unfoldable pub all_pieces : List Mechanism → ℕ
all_pieces [] = 0
all_pieces (first ∷ rest) = first.pieces + all_pieces rest

-- the sum of the losses, where each is a number and it is at most 2 ^ 32
unfoldable pub total_loss : List Mechanism → ℕ → Option ℕ
total_loss [] d = Some 0
total_loss (first ∷ rest) d = added (first.privacy_map d) (total_loss rest d)

-- measurements on one input, with one ratio, as one
abbrev pub joined : Fraction → Domain → Metric → List Mechanism → Mechanism
joined ratio domain metric parts = record {
  input_domain = domain;
  input_metric = metric;
  ratio = ratio;
  shape = joined_shape parts;
  function = joined_answer parts;
  pieces = all_pieces parts;
  privacy_map = total_loss parts;
}

-- what a release of the parts is on a domain and a metric
abbrev pub release_on : Fraction → List Part → Domain → Metric → Result Mechanism Refused
release_on ratio parts domain metric = on_ok (joined ratio domain metric) (parts_on ratio parts domain metric)

-- a loss, where there is one and the draws are at most 2 ^ 20
abbrev pub cost_within : ℕ → Option ℕ → Result ℕ CostFault
cost_within draws None = Err cost.Distance
cost_within draws (Some loss) = if nat_le draws (2 ^ 20) then Ok loss else Err cost.Draws

-- what a release costs at a distance
abbrev pub cost_of : Mechanism → ℕ → Result ℕ CostFault
cost_of release d = cost_within (length release.shape) (release.privacy_map d)

-- a measurement on this input with this ratio, of at most 2 ^ 26 draws and pieces
pub record IsLike (ratio : Fraction) (domain : Domain) (metric : Metric) (part : Mechanism) : Type 0 where
  pub input_domain : part.input_domain ≡ domain
  pub input_metric : part.input_metric ≡ metric
  pub one_ratio : part.ratio ≡ ratio
  pub few_draws : length part.shape ≤ 2 ^ 26
  pub few_pieces : part.pieces ≤ 2 ^ 26

-- each of the measurements is one
unfoldable pub AreAlike : Fraction → Domain → Metric → List Mechanism → Type 0
AreAlike ratio domain metric [] = Unit {0}
AreAlike ratio domain metric (first ∷ rest) = IsLike ratio domain metric first × AreAlike ratio domain metric rest

-- a fact of the input domain of each of the measurements
unfoldable pub TakeAll : (Domain → Type 0) → List Mechanism → Type 0
TakeAll P [] = Unit {0}
TakeAll P (first ∷ rest) = P first.input_domain × TakeAll P rest
