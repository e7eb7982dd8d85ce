-- A transformation before another is stable, and before a measurement private.
use Rattle.std.proofs.Common.{◌≡◌, ℕ, Option, Some, None, refl, subst}
use Rattle.std.specs.Prelude.{◌↔◌, option_and_then}
use Rattle.dp_domain.specs.declared.domains.Domain.{Domain}
use Rattle.dp_domain.specs.declared.metrics.Metric.{Metric}
use Rattle.dp_domain.specs.declared.values.Value.{Value}
use Rattle.dp_domain.specs.Domains.{Has}
use Rattle.dp_domain.specs.Metrics.{Within, SuitsMetric}
use Rattle.dp_law.specs.Mapping.{Mapping, IsStable}
use Rattle.dp_law.specs.Mechanism.{Mechanism, IsPrivate, ways}
use Rattle.dp_law.specs.Joining.{chained, measured}

-- a number of the second map comes from one of the first
pub and_then-parts : (first : Option ℕ) (second : ℕ → Option ℕ) (e : ℕ) → option_and_then second first ≡ Some e →
    (between : ℕ) × (first ≡ Some between) × (second between ≡ Some e)
and_then-parts None second e h = absurd (cc)
and_then-parts (Some between) second e h = (between, refl, h)

-- what the first gives is in the second's input domain
passes : (first : Mapping) → IsStable first → (domain : Domain) → first.output_domain ≡ domain → (v : Value) →
    Has first.input_domain v → Has domain (first.function v)
passes first law domain same v has = subst (λ (d : Domain). Has d (first.function v)) same (law.lands v has)

-- and as far apart as the first's map says
stays-near : (first : Mapping) → IsStable first → (metric : Metric) → first.output_metric ≡ metric → (d e : ℕ) (v w : Value) →
    first.stability_map d ≡ Some e → Has first.input_domain v → Has first.input_domain w → Within first.input_metric d v w →
    Within metric e (first.function v) (first.function w)
stays-near first law metric same d e v w map_is has_v has_w near =
    subst (λ (m : Metric). Within m e (first.function v) (first.function w)) same (law.stable d e v w map_is has_v has_w near)

suits-second : (domain other : Domain) (metric another : Metric) → domain ≡ other → metric ≡ another → SuitsMetric domain metric ↔ SuitsMetric other another
suits-second domain other metric another domains metrics =
    subst (λ (d : Domain). SuitsMetric domain metric ↔ SuitsMetric d another) domains
    (subst (λ (m : Metric). SuitsMetric domain metric ↔ SuitsMetric domain m) metrics (λ h. h, λ h. h))

pub chained_law : (first second : Mapping) → IsStable first → IsStable second → first.output_domain ≡ second.input_domain →
    first.output_metric ≡ second.input_metric → IsStable (chained first second)
chained_law first second one other domains metrics =
    let same = suits-second first.output_domain second.input_domain first.output_metric second.input_metric domains metrics in
    record {
      input_fits = one.input_fits;
      output_fits = other.output_fits;
      suits = (λ h. other.suits.0 (same.0 (one.suits.0 h)), λ h. one.suits.1 (same.1 (other.suits.1 h)));
      lands = λ v has. other.lands (first.function v) (passes first one second.input_domain domains v has);
      limited = λ d e map_is.
          let parts = and_then-parts (first.stability_map d) second.stability_map e map_is in
          other.limited parts.0 e parts.2;
      stable = λ d e v w map_is has_v has_w near.
          let parts = and_then-parts (first.stability_map d) second.stability_map e map_is in
          other.stable parts.0 e (first.function v) (first.function w) parts.2
          (passes first one second.input_domain domains v has_v) (passes first one second.input_domain domains w has_w)
          (stays-near first one second.input_metric metrics d parts.0 v w parts.1 has_v has_w near);
    }

pub measured_law : (first : Mapping) (second : Mechanism) → IsStable first → IsPrivate second →
    first.output_domain ≡ second.input_domain → first.output_metric ≡ second.input_metric → IsPrivate (measured first second)
unfolding ways
measured_law first second one other domains metrics =
    let same = suits-second first.output_domain second.input_domain first.output_metric second.input_metric domains metrics in
    record {
      input_fits = one.input_fits;
      input_suits = one.suits.1 (same.1 other.input_suits);
      below_one = other.below_one;
      few_draws = other.few_draws;
      bounds = other.bounds;
      few_pieces = other.few_pieces;
      whole = λ v draws has fits. other.whole (first.function v) draws (passes first one second.input_domain domains v has) fits;
      limited = λ d k map_is.
          let parts = and_then-parts (first.stability_map d) second.privacy_map k map_is in
          other.limited parts.0 k parts.2;
      private = λ d k v w answer map_is has_v has_w near.
          let parts = and_then-parts (first.stability_map d) second.privacy_map k map_is in
          other.private parts.0 k (first.function v) (first.function w) answer parts.2
          (passes first one second.input_domain domains v has_v) (passes first one second.input_domain domains w has_w)
          (stays-near first one second.input_metric metrics d parts.0 v w parts.1 has_v has_w near);
    }
