-- At the distance 0 every stability map and every privacy map gives 0.
use Rattle.std.proofs.Common.{◌≡◌, ℕ, ℤ, ◌*◌, ◌^◌, min, Bool, true, false, ◌&&◌, cond, List, [], ◌∷◌, Option, Some, None, Ok, Err, refl, sym, subst, ◌∙◌, ap, arith}
use Rattle.std.specs.Prelude.{Result, option_and_then}
use Rattle.std.specs.Int.{div_ceil}
use Rattle.std.proofs.Math.Nat.{zero-div, zero-mod}
use Rattle.dp_num.specs.Limits.{Fraction, capped}
use Rattle.dp_domain.specs.declared.domains.Domain.{Domain}
use Rattle.dp_domain.specs.declared.domains.Domain.TheVariants as domain
use Rattle.dp_domain.specs.declared.metrics.Metric.{Metric}
use Rattle.dp_domain.specs.declared.metrics.Metric.TheVariants as metrics
use Rattle.dp_law.specs.declared.refusals.Refused.{Refused}
use Rattle.dp_law.specs.declared.refusals.Refused.TheVariants as refused
use Rattle.dp_law.specs.Making.{tested, is_symmetric}
use Rattle.dp_law.specs.Mapping.{Mapping}
use Rattle.dp_law.specs.Mechanism.{Mechanism}
use Rattle.dp_aggregate.specs.Count.{has_lists, has_unsized_lists, count_mapping}
use Rattle.dp_aggregate.specs.Sum.{sum_factor}
use Rattle.dp_aggregate.specs.Histogram.{histogram_factor}
use Rattle.dp_count.specs.Results.{◌>>=◌}
use Rattle.dp_chain.specs.declared.noise.Noise.{Noise}
use Rattle.dp_chain.specs.declared.noise.Noise.TheVariants as noise
use Rattle.dp_chain.specs.Lines.{stages_on, line_map}
use Rattle.dp_chain.proofs.LineSteps.{line_map-nil, line_map-cons}
use Rattle.dp_chain.proofs.NoiseMaking.{geometric-made, response-made, choice-made}
use Rattle.dp_chain.proofs.Making.{first_and, stages-more, stages-none}
use Rattle.dp_chain.specs.Stages.{stage_on, noise_on}
use Rattle.dp_chain.specs.declared.stage.Stage.{Stage}
use Rattle.dp_chain.specs.declared.stage.Stage.TheVariants as stage

abbrev pub ZeroAt : Result Mapping Refused → Type 0
ZeroAt (Ok made) = made.stability_map 0 ≡ Some 0
ZeroAt (Err refusal) = Unit {0}

tested-zero : (right good : Bool) (made : Mapping) → made.stability_map 0 ≡ Some 0 → ZeroAt (tested right good made)
tested-zero true true made zero_is = zero_is
tested-zero true false made zero_is = tt
tested-zero false good made zero_is = tt

capped-zero : (n : ℕ) → n ≡ 0 → capped n ≡ Some 0
capped-zero n same = ap capped same

times-zero : (u : ℕ) → u * 0 ≡ 0
times-zero u = omega arith

ceil-zero : (g : ℕ) → div_ceil 0 g ≡ 0
ceil-zero g = rw (zero-div, zero-mod) refl

count-zero : (lists : Bool) (d : Domain) (m : Metric) → ZeroAt (cond lists (tested (has_unsized_lists d && is_symmetric m) true (count_mapping d)) (Err refused.Kind))
count-zero true d m = tested-zero (has_unsized_lists d && is_symmetric m) true (count_mapping d) refl
count-zero false d m = tt

pub stage-zero : (s : Stage) (d : Domain) (m : Metric) → ZeroAt (stage_on s d m)
unfolding stage_on
stage-zero (stage.Filter column text) (domain.Rows columns) m = tested-zero _ _ _ refl
stage-zero (stage.Filter column text) d m = tt
stage-zero (stage.Select column) (domain.Rows columns) m = tested-zero _ _ _ refl
stage-zero (stage.Select column) d m = tt
stage-zero stage.Cast domain.Texts m = tested-zero _ _ _ refl
stage-zero stage.Cast d m = tt
stage-zero (stage.Categories texts) domain.Texts m = tested-zero _ _ _ refl
stage-zero (stage.Categories texts) d m = tt
stage-zero (stage.Impute number) (domain.OptInts lo hi) m = tested-zero _ _ _ refl
stage-zero (stage.Impute number) d m = tt
stage-zero stage.DropNone (domain.OptInts lo hi) m = tested-zero _ _ _ refl
stage-zero stage.DropNone d m = tt
stage-zero (stage.Clamp lo hi) (domain.Ints from_lo from_hi size) m = tested-zero _ _ _ refl
stage-zero (stage.Clamp lo hi) d m = tt
stage-zero (stage.Bins edges) (domain.Ints lo hi size) m = tested-zero _ _ _ refl
stage-zero (stage.Bins edges) d m = tt
stage-zero (stage.Resize size fill) (domain.Ints lo hi given) m = tested-zero _ _ _ refl
stage-zero (stage.Resize size fill) d m = tt
stage-zero stage.Count d m = count-zero (has_lists d) d m
stage-zero stage.Sum (domain.Ints lo hi size) m = tested-zero _ _ _ (capped-zero (0 * sum_factor lo hi size) (omega arith))
stage-zero stage.Sum d m = tt
stage-zero stage.Histogram (domain.Cats n size) m = tested-zero _ _ _ (capped-zero (histogram_factor size * 0) (omega arith))
stage-zero stage.Histogram d m = tt
stage-zero (stage.Quantise step) (domain.Int lo hi) m = tested-zero _ _ _ (capped-zero (div_ceil 0 step) (ceil-zero step))
stage-zero (stage.Quantise step) d m = tt
stage-zero (stage.AtLeast edges) (domain.Int lo hi) m = tested-zero _ _ _ refl
stage-zero (stage.AtLeast edges) d m = tt
stage-zero (stage.Truncate most) (domain.Rows columns) (metrics.Users column) = tested-zero _ _ _ (capped-zero (2 * most * 0) (omega arith))
stage-zero (stage.Truncate most) (domain.Rows columns) m = tt
stage-zero (stage.Truncate most) d m = tt

-- a line of such stages
line-zero : (first : Result Mapping Refused) (ss : List Stage) (line : List Mapping) → ZeroAt first → ((made : Mapping) (rest : List Mapping) → stages_on ss made.output_domain made.output_metric ≡ Ok rest → line_map rest 0 ≡ Some 0) →
    first_and first ss ≡ Ok line → line_map line 0 ≡ Some 0
line-zero (Ok made) ss line zero_is others is = rest-zero made (stages_on ss made.output_domain made.output_metric) line zero_is (others made) is
  where
    rest-zero : (made : Mapping) (r : Result (List Mapping) Refused) (line : List Mapping) → made.stability_map 0 ≡ Some 0 → ((rest : List Mapping) → r ≡ Ok rest → line_map rest 0 ≡ Some 0) →
        (r >>= (λ rest. Ok (made ∷ rest))) ≡ Ok line → line_map line 0 ≡ Some 0
    rest-zero made (Ok rest) line zero_is others is =
        subst (λ (l : List Mapping). line_map l 0 ≡ Some 0) (let same : made ∷ rest ≡ line = cc in same)
        (line_map-cons made rest 0 ∙ ap (λ (o : Option ℕ). option_and_then (line_map rest) o) zero_is ∙ others rest refl)
    rest-zero made (Err refusal) line zero_is others is = absurd (cc)
line-zero (Err refusal) ss line zero_is others is = absurd (cc)

pub stages-zero : (ss : List Stage) (d : Domain) (m : Metric) (line : List Mapping) → stages_on ss d m ≡ Ok line → line_map line 0 ≡ Some 0
stages-zero [] d m line is = subst (λ (l : List Mapping). line_map l 0 ≡ Some 0) (let same : [] ≡ line = cc (stages-none d m) in same) (line_map-nil 0 (omega arith))
stages-zero (s ∷ ss) d m line is = line-zero (stage_on s d m) ss line (stage-zero s d m) (λ made. stages-zero ss made.output_domain made.output_metric) (sym (stages-more s ss d m) ∙ is)

abbrev pub LossZero : Result Mechanism Refused → Type 0
LossZero (Ok made) = made.privacy_map 0 ≡ Some 0
LossZero (Err refusal) = Unit {0}

pub noise-zero : (ratio : Fraction) (n : Noise) (d : Domain) (m : Metric) → LossZero (noise_on ratio n d m)
unfolding noise_on
noise-zero ratio (noise.Geometric u lo hi) (domain.Int least most) metrics.Absolute =
    geometric-made LossZero ratio u tt (domain.Int least most) lo hi (λ both made good. capped-zero (u * 0) (times-zero u))
noise-zero ratio (noise.Geometric u lo hi) (domain.Int least most) m = tt
noise-zero ratio (noise.Geometric u lo hi) (domain.IntVec len least most) metrics.L1 =
    geometric-made LossZero ratio u tt (domain.IntVec len least most) lo hi (λ both made good. capped-zero (u * 0) (times-zero u))
noise-zero ratio (noise.Geometric u lo hi) (domain.IntVec len least most) m = tt
noise-zero ratio (noise.Geometric u lo hi) d m = tt
noise-zero ratio (noise.Response u) (domain.Cat n) metrics.Discrete =
    response-made LossZero ratio u tt n (λ both made good. capped-zero (u * min 0 1) (times-zero u))
noise-zero ratio (noise.Response u) (domain.Cat n) m = tt
noise-zero ratio (noise.Response u) d m = tt
noise-zero ratio (noise.Choice u floor top) (domain.IntVec len least most) metrics.L1 =
    choice-made LossZero ratio u tt len least most floor top (λ both made good. refl)
noise-zero ratio (noise.Choice u floor top) (domain.IntVec len least most) m = tt
noise-zero ratio (noise.Choice u floor top) d m = tt
