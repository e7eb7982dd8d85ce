-- A stage and a noise that are made take the domain and the metric on which they are made.
use Rattle.std.proofs.Common.{◌≡◌, Bool, true, false, ◌&&◌, ℕ, Option, Some, None, Ok, Err, refl}
use Rattle.std.specs.Prelude.{Result, if◌then◌else◌, nat_lt}
use Rattle.dp_domain.specs.declared.domains.Domain.{Domain}
use Rattle.dp_domain.specs.declared.domains.Domain.TheVariants as domain
use Rattle.dp_domain.specs.declared.metrics.Metric.{Metric}
use Rattle.dp_domain.specs.declared.metrics.Metric.TheVariants as metrics
use Rattle.dp_law.specs.declared.refusals.Refused.{Refused}
use Rattle.dp_law.specs.declared.refusals.Refused.TheVariants as refused
use Rattle.dp_law.specs.Making.{tested, is_absolute, is_symmetric, is_change_one, list_metric, is_list_metric}
use Rattle.dp_law.specs.Mapping.{Mapping}
use Rattle.dp_rowwise.specs.Filter.{compares_rows}
use Rattle.dp_aggregate.specs.Count.{has_lists, has_unsized_lists, count_mapping}
use Rattle.dp_chain.specs.Stages.{stage_on}
use Rattle.dp_chain.specs.declared.stage.Stage.{Stage}
use Rattle.dp_chain.specs.declared.stage.Stage.TheVariants as stage

-- what is made takes the domain and the metric
abbrev pub Takes : Result Mapping Refused → Domain → Metric → Type 0
Takes (Ok made) domain metric = (made.input_domain ≡ domain) × (made.input_metric ≡ metric)
Takes (Err refusal) domain metric = Unit {0}

tested-takes : (right good : Bool) (made : Mapping) (domain : Domain) (metric : Metric) → made.input_domain ≡ domain → (right ≡ true → made.input_metric ≡ metric) →
    Takes (tested right good made) domain metric
tested-takes true true made domain metric same told = (same, told refl)
tested-takes true false made domain metric same told = tt
tested-takes false good made domain metric same told = tt

symmetric-is : (metric : Metric) → is_symmetric metric ≡ true → metrics.Symmetric ≡ metric
symmetric-is metrics.Symmetric told = refl
symmetric-is metric told = absurd (cc)

absolute-is : (metric : Metric) → is_absolute metric ≡ true → metrics.Absolute ≡ metric
absolute-is metrics.Absolute told = refl
absolute-is metric told = absurd (cc)

change_one-is : (metric : Metric) → is_change_one metric ≡ true → metrics.ChangeOne ≡ metric
change_one-is metrics.ChangeOne told = refl
change_one-is metric told = absurd (cc)

list_metric-is : (size : Option ℕ) (metric : Metric) → is_list_metric size metric ≡ true → list_metric size ≡ metric
list_metric-is None metric told = symmetric-is metric told
list_metric-is (Some size) metric told = change_one-is metric told

second-holds : (a b : Bool) → (a && b) ≡ true → b ≡ true
second-holds true b told = told
second-holds false b told = absurd (cc)

count-takes : (lists : Bool) (domain : Domain) (metric : Metric) →
    Takes (if lists then tested (has_unsized_lists domain && is_symmetric metric) true (count_mapping domain) else Err refused.Kind) domain metric
count-takes true domain metric =
    tested-takes (has_unsized_lists domain && is_symmetric metric) true (count_mapping domain) domain metric refl (λ told. symmetric-is metric (second-holds _ _ told))
count-takes false domain metric = tt

pub stage-takes : (s : Stage) (d : Domain) (m : Metric) → Takes (stage_on s d m) d m
unfolding stage_on
stage-takes (stage.Filter column text) (domain.Rows columns) m = tested-takes (compares_rows columns m) _ _ _ m refl (λ told. refl)
stage-takes (stage.Filter column text) d m = tt
stage-takes (stage.Select column) (domain.Rows columns) m = tested-takes (is_symmetric m) _ _ _ m refl (symmetric-is m)
stage-takes (stage.Select column) d m = tt
stage-takes stage.Cast domain.Texts m = tested-takes (is_symmetric m) _ _ _ m refl (symmetric-is m)
stage-takes stage.Cast d m = tt
stage-takes (stage.Categories texts) domain.Texts m = tested-takes (is_symmetric m) _ _ _ m refl (symmetric-is m)
stage-takes (stage.Categories texts) d m = tt
stage-takes (stage.Impute number) (domain.OptInts lo hi) m = tested-takes (is_symmetric m) _ _ _ m refl (symmetric-is m)
stage-takes (stage.Impute number) d m = tt
stage-takes stage.DropNone (domain.OptInts lo hi) m = tested-takes (is_symmetric m) _ _ _ m refl (symmetric-is m)
stage-takes stage.DropNone d m = tt
stage-takes (stage.Clamp lo hi) (domain.Ints from_lo from_hi size) m = tested-takes (is_list_metric size m) _ _ _ m refl (list_metric-is size m)
stage-takes (stage.Clamp lo hi) d m = tt
stage-takes (stage.Bins edges) (domain.Ints lo hi size) m = tested-takes (is_list_metric size m) _ _ _ m refl (list_metric-is size m)
stage-takes (stage.Bins edges) d m = tt
stage-takes (stage.Resize size fill) (domain.Ints lo hi None) m = tested-takes (is_symmetric m) _ _ _ m refl (symmetric-is m)
stage-takes (stage.Resize size fill) (domain.Ints lo hi (Some given)) m = tt
stage-takes (stage.Resize size fill) d m = tt
stage-takes stage.Count d m = count-takes (has_lists d) d m
stage-takes stage.Sum (domain.Ints lo hi size) m = tested-takes (is_list_metric size m) _ _ _ m refl (list_metric-is size m)
stage-takes stage.Sum d m = tt
stage-takes stage.Histogram (domain.Cats n size) m = tested-takes (is_list_metric size m) _ _ _ m refl (list_metric-is size m)
stage-takes stage.Histogram d m = tt
stage-takes (stage.Quantise step) (domain.Int lo hi) m = tested-takes (is_absolute m) _ _ _ m refl (absolute-is m)
stage-takes (stage.Quantise step) d m = tt
stage-takes (stage.AtLeast edges) (domain.Int lo hi) m = tested-takes (is_absolute m) _ _ _ m refl (absolute-is m)
stage-takes (stage.AtLeast edges) d m = tt
stage-takes (stage.Truncate most) (domain.Rows columns) (metrics.Users column) = tested-takes (nat_lt column columns) _ _ _ (metrics.Users column) refl (λ told. refl)
stage-takes (stage.Truncate most) (domain.Rows columns) m = tt
stage-takes (stage.Truncate most) d m = tt
