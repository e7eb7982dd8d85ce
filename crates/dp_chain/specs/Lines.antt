-- Lines of stages: each stage is made on what the stage before gives.
use Rattle.std.specs.Prelude.{◌≡◌, ℕ, List, [], ◌∷◌, Option, Result, Ok, option_and_then}
use Rattle.dp_count.specs.Results.{◌>>=◌, on_ok}
use Rattle.dp_num.specs.Limits.{capped}
use Rattle.dp_domain.specs.declared.domains.Domain.{Domain}
use Rattle.dp_domain.specs.declared.metrics.Metric.{Metric}
use Rattle.dp_domain.specs.declared.values.Value.{Value}
use Rattle.dp_domain.specs.Domains.{Has}
use Rattle.dp_law.specs.declared.refusals.Refused.{Refused}
use Rattle.dp_law.specs.Mapping.{Mapping}
use Rattle.dp_chain.specs.declared.stage.Stage.{Stage}
use Rattle.dp_chain.specs.Stages.{stage_on}

-- the transformations of the stages, made from first to last, each on the domain and the metric that the one before
-- gives; the first stage that is refused decides
unfoldable pub stages_on : List Stage → Domain → Metric → Result (List Mapping) Refused
stages_on [] domain metric = Ok []
stages_on (stage ∷ stages) domain metric = do
  first ← stage_on stage domain metric
  rest ← stages_on stages first.output_domain first.output_metric
  Ok (first ∷ rest)

-- what the transformations give, one after the other
unfoldable pub line_value : List Mapping → Value → Value
line_value [] v = v
line_value (first ∷ rest) v = line_value rest (first.function v)

-- how far apart values within d can then be, where each stability map has a number
unfoldable pub line_map : List Mapping → ℕ → Option ℕ
line_map [] d = capped d
line_map (first ∷ rest) d = option_and_then (line_map rest) (first.stability_map d)

-- the domain and the metric that the last one gives
unfoldable pub end_domain : Domain → List Mapping → Domain
end_domain domain [] = domain
end_domain domain (first ∷ rest) = end_domain first.output_domain rest

unfoldable pub end_metric : Metric → List Mapping → Metric
end_metric metric [] = metric
end_metric metric (first ∷ rest) = end_metric first.output_metric rest

-- transformations from first to last as one; without one, values and distances stay as they are
abbrev pub composed : Domain → Metric → List Mapping → Mapping
composed domain metric line = record {
  input_domain = domain;
  input_metric = metric;
  output_domain = end_domain domain line;
  output_metric = end_metric metric line;
  function = line_value line;
  stability_map = line_map line;
}

-- what a line of stages is on a domain and a metric
abbrev pub line_on : List Stage → Domain → Metric → Result Mapping Refused
line_on stages domain metric = on_ok (composed domain metric) (stages_on stages domain metric)

-- each transformation takes the domain and the metric that the one before gives
unfoldable pub AreJoined : Domain → Metric → List Mapping → Type 0
AreJoined domain metric [] = Unit {0}
AreJoined domain metric (first ∷ rest) =
    (first.input_domain ≡ domain) × (first.input_metric ≡ metric)
    × AreJoined first.output_domain first.output_metric rest

-- each transformation has in its input domain what those before it give
unfoldable pub Runs : List Mapping → Value → Type 0
Runs [] v = Unit {0}
Runs (first ∷ rest) v = Has first.input_domain v × Runs rest (first.function v)
