-- A stage that is made on a domain that fits is stable.
use Rattle.std.proofs.Common.{◌≡◌, ℕ, ℤ, pos, ◌+◌, ◌<◌, Bool, true, false, ◌&&◌, Some, None, Ok, Err, List, length, refl, subst, arith}
use Rattle.std.specs.Prelude.{Result, if◌then◌else◌, nat_lt}
use Rattle.std.specs.List.{list_all}
use Rattle.std.proofs.lemmas.Bool.Decides.{nat_tests}
use Rattle.std.proofs.lemmas.Int.{ints}
use Rattle.dp_domain.specs.declared.domains.Domain.{Domain}
use Rattle.dp_domain.specs.declared.domains.Domain.TheVariants as domain
use Rattle.dp_domain.specs.declared.metrics.Metric.{Metric}
use Rattle.dp_domain.specs.declared.metrics.Metric.TheVariants as metrics
use Rattle.dp_domain.specs.Domains.{Fits, FewCategories, IsBetween, IsRange, item_limit, number_limit, few_and_one}
use Rattle.dp_domain.specs.Ranges.{is_range, is_within}
use Rattle.dp_domain.specs.Edges.{are_edges, is_rising}
use Rattle.dp_law.specs.declared.refusals.Refused.{Refused}
use Rattle.dp_law.specs.declared.refusals.Refused.TheVariants as refused
use Rattle.dp_law.specs.Making.{tested, is_absolute, is_symmetric, is_list_metric}
use Rattle.dp_law.specs.Mapping.{Mapping, IsStable}
use Rattle.dp_rowwise.specs.Categories.{are_different}
use Rattle.dp_rowwise.specs.Filter.{compares_rows}
use Rattle.dp_rowwise.specs.Impute.{is_between}
use Rattle.dp_rowwise.specs.FilterProof.{filter_law}
use Rattle.dp_rowwise.specs.SelectProof.{select_law}
use Rattle.dp_rowwise.specs.CastProof.{cast_law}
use Rattle.dp_rowwise.specs.CategoriesProof.{categories_law}
use Rattle.dp_rowwise.specs.ImputeProof.{impute_law}
use Rattle.dp_rowwise.specs.DropNoneProof.{drop_none_law}
use Rattle.dp_rowwise.specs.ClampProof.{clamp_law}
use Rattle.dp_rowwise.specs.BinsProof.{bins_law}
use Rattle.dp_rowwise.specs.TruncateProof.{truncate_law}
use Rattle.dp_aggregate.specs.Count.{has_lists, has_unsized_lists, count_mapping}
use Rattle.dp_aggregate.specs.ResizeProof.{resize_law}
use Rattle.dp_aggregate.specs.CountProof.{count_law}
use Rattle.dp_aggregate.specs.SumProof.{sum_law}
use Rattle.dp_aggregate.specs.HistogramProof.{histogram_law}
use Rattle.dp_aggregate.specs.QuantiseProof.{quantise_law}
use Rattle.dp_aggregate.specs.AtLeastProof.{at_least_law}
use Rattle.dp_chain.specs.Laws.{StageLaw}
use Rattle.dp_chain.specs.Stages.{stage_on}
use Rattle.dp_chain.specs.declared.stage.Stage.{Stage}
use Rattle.dp_chain.specs.declared.stage.Stage.TheVariants as stage
use Rattle.dp_chain.proofs.StageInputs.{Takes, stage-takes}

-- what is made is stable
abbrev pub StableIfMade : Result Mapping Refused → Type 0
StableIfMade (Ok made) = IsStable made
StableIfMade (Err refusal) = Unit {0}

tested-stable : (right good : Bool) (made : Mapping) → (right ≡ true → good ≡ true → IsStable made) → StableIfMade (tested right good made)
tested-stable true true made law = law refl refl
tested-stable true false made law = tt
tested-stable false good made law = tt

first-holds : (a b : Bool) → (a && b) ≡ true → a ≡ true
first-holds true b told = refl
first-holds false b told = absurd (cc)

-- what the tests of parameters tell
one-more : (n : ℕ) → few_and_one n ≡ true → FewCategories (n + 1)
one-more n told = (grind (arith, nat_tests), grind (arith, nat_tests))

edges-few : (limit : ℤ) (edges : List ℤ) → are_edges limit edges ≡ true → FewCategories (length edges + 1)
edges-few limit edges told =
    one-more (length edges) (first-holds (few_and_one (length edges)) (list_all (is_within limit) edges)
    (first-holds (few_and_one (length edges) && list_all (is_within limit) edges) (is_rising edges) told))

between-holds : (lo hi number : ℤ) → is_between lo hi number ≡ true → IsBetween lo hi number
between-holds lo hi number told = grind (arith, ints)

range-holds : (limit : ℕ) (lo hi : ℤ) → is_range limit lo hi ≡ true → IsRange limit lo hi
range-holds limit lo hi told = grind (arith, ints)

below-holds : (a b : ℕ) → nat_lt a b ≡ true → a < b
below-holds a b told = grind (arith, nat_tests)

count-stable : (lists : Bool) (d : Domain) (m : Metric) → Fits d →
    StableIfMade (if lists then tested (has_unsized_lists d && is_symmetric m) true (count_mapping d) else Err refused.Kind)
count-stable true d m fits =
    tested-stable (has_unsized_lists d && is_symmetric m) true (count_mapping d)
    (λ right good. count_law d fits (first-holds (has_unsized_lists d) (is_symmetric m) right))
count-stable false d m fits = tt

pub stage-stable : (s : Stage) (d : Domain) (m : Metric) → Fits d → StableIfMade (stage_on s d m)
unfolding stage_on
stage-stable (stage.Filter column text) (domain.Rows columns) m fits =
    tested-stable (compares_rows columns m) _ _ (λ right good. filter_law column text columns m fits)
stage-stable (stage.Filter column text) d m fits = tt
stage-stable (stage.Select column) (domain.Rows columns) m fits =
    tested-stable (is_symmetric m) _ _ (λ right good. select_law column columns fits)
stage-stable (stage.Select column) d m fits = tt
stage-stable stage.Cast domain.Texts m fits = tested-stable (is_symmetric m) _ _ (λ right good. cast_law)
stage-stable stage.Cast d m fits = tt
stage-stable (stage.Categories texts) domain.Texts m fits =
    tested-stable (is_symmetric m) _ _
    (λ right good. categories_law texts (one-more (length texts) (first-holds (few_and_one (length texts)) (are_different texts) good), tt))
stage-stable (stage.Categories texts) d m fits = tt
stage-stable (stage.Impute number) (domain.OptInts lo hi) m fits =
    tested-stable (is_symmetric m) _ _ (λ right good. impute_law number lo hi fits (between-holds lo hi number good))
stage-stable (stage.Impute number) d m fits = tt
stage-stable stage.DropNone (domain.OptInts lo hi) m fits = tested-stable (is_symmetric m) _ _ (λ right good. drop_none_law lo hi fits)
stage-stable stage.DropNone d m fits = tt
stage-stable (stage.Clamp lo hi) (domain.Ints from_lo from_hi size) m fits =
    tested-stable (is_list_metric size m) _ _
    (λ right good. clamp_law lo hi from_lo from_hi size fits (range-holds item_limit lo hi good, fits.1))
stage-stable (stage.Clamp lo hi) d m fits = tt
stage-stable (stage.Bins edges) (domain.Ints lo hi size) m fits =
    tested-stable (is_list_metric size m) _ _ (λ right good. bins_law edges lo hi size fits (edges-few (pos item_limit) edges good, fits.1))
stage-stable (stage.Bins edges) d m fits = tt
stage-stable (stage.Resize size fill) (domain.Ints lo hi None) m fits =
    tested-stable (is_symmetric m) _ _ (λ right good. resize_law lo hi size fill fits good)
stage-stable (stage.Resize size fill) (domain.Ints lo hi (Some given)) m fits = tt
stage-stable (stage.Resize size fill) d m fits = tt
stage-stable stage.Count d m fits = count-stable (has_lists d) d m fits
stage-stable stage.Sum (domain.Ints lo hi size) m fits = tested-stable (is_list_metric size m) _ _ (λ right good. sum_law lo hi size fits)
stage-stable stage.Sum d m fits = tt
stage-stable stage.Histogram (domain.Cats n size) m fits =
    tested-stable (is_list_metric size m) _ _ (λ right good. histogram_law n size fits)
stage-stable stage.Histogram d m fits = tt
stage-stable (stage.Quantise step) (domain.Int lo hi) m fits =
    tested-stable (is_absolute m) _ _ (λ right good. quantise_law lo hi step fits good)
stage-stable (stage.Quantise step) d m fits = tt
stage-stable (stage.AtLeast edges) (domain.Int lo hi) m fits =
    tested-stable (is_absolute m) _ _ (λ right good. at_least_law edges lo hi fits (edges-few (pos number_limit) edges good))
stage-stable (stage.AtLeast edges) d m fits = tt
stage-stable (stage.Truncate most) (domain.Rows columns) (metrics.Users column) fits =
    tested-stable (nat_lt column columns) _ _ (λ right good. truncate_law column most columns fits (below-holds column columns right))
stage-stable (stage.Truncate most) (domain.Rows columns) m fits = tt
stage-stable (stage.Truncate most) d m fits = tt

pub stage-law : StageLaw
stage-law s d m made fits is =
    let takes = subst (λ (r : Result Mapping Refused). Takes r d m) is (stage-takes s d m) in
    record {
      stable = subst StableIfMade is (stage-stable s d m fits);
      input_domain = takes.0;
      input_metric = takes.1;
    }
