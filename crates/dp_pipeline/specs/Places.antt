-- Where stages and noises are made, and where a stage leads.
use Rattle.std.specs.Prelude.{ℕ, Option, None, Result, Ok, Err, option_map}
use Rattle.dp_domain.specs.declared.domains.Domain.{Domain}
use Rattle.dp_domain.specs.declared.metrics.Metric.{Metric}
use Rattle.dp_law.specs.declared.refusals.Refused.{Refused}
use Rattle.dp_law.specs.Mapping.{Mapping}
use Rattle.dp_chain.specs.declared.stage.Stage.{Stage}
use Rattle.dp_chain.specs.Stages.{stage_on}

-- a domain, a metric, and the distance of values there
pub record PlaceValue : Type 0 where
  pub domain : Domain
  pub metric : Metric
  pub distance : ℕ

-- what a transformation gives at a distance, where its stability map has a number
abbrev pub after_mapping : ℕ → Result Mapping Refused → Option PlaceValue
after_mapping distance (Ok m) =
    option_map (λ next. record { domain = m.output_domain; metric = m.output_metric; distance = next })
    (m.stability_map distance)
after_mapping distance (Err refusal) = None

-- where a stage leads, if it is made
unfoldable pub after_stage : Stage → PlaceValue → Option PlaceValue
after_stage stage at = after_mapping at.distance (stage_on stage at.domain at.metric)
