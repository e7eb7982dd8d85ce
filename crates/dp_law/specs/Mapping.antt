-- A transformation as what it means: two domains with a metric each, a function, and a stability map.
use Rattle.std.specs.Prelude.{◌≡◌, ◌↔◌, ℕ, ◌^◌, ◌≤◌, Option, Some}
use Rattle.dp_domain.specs.declared.domains.Domain.{Domain}
use Rattle.dp_domain.specs.declared.metrics.Metric.{Metric}
use Rattle.dp_domain.specs.declared.values.Value.{Value}
use Rattle.dp_domain.specs.Domains.{Fits, Has}
use Rattle.dp_domain.specs.Metrics.{Within, SuitsMetric}

-- the stability map gives how far apart the results of values within a distance can be: at most 2 ^ 32, or None where
-- the part states no distance
pub record Mapping : Type 0 where
  pub input_domain : Domain
  pub input_metric : Metric
  pub output_domain : Domain
  pub output_metric : Metric
  pub function : Value → Value
  pub stability_map : ℕ → Option ℕ

-- the domains fit, the output metric is used with the output domain exactly where the input metric is with the input
-- domain, the function lands in the output domain, and values within d go to values within the map of d
pub record IsStable (m : Mapping) : Type 0 where
  pub input_fits : Fits m.input_domain
  pub output_fits : Fits m.output_domain
  pub suits : SuitsMetric m.input_domain m.input_metric ↔ SuitsMetric m.output_domain m.output_metric
  pub lands : (v : Value) → Has m.input_domain v → Has m.output_domain (m.function v)
  pub limited : (d e : ℕ) → m.stability_map d ≡ Some e → e ≤ 2 ^ 32
  pub stable : (d e : ℕ) (v w : Value) → m.stability_map d ≡ Some e → Has m.input_domain v → Has m.input_domain w
      → Within m.input_metric d v w → Within m.output_metric e (m.function v) (m.function w)
