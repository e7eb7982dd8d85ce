-- What is known of the release of a plan: it is private, costs nothing at the distance 0, and is small.
use Rattle.std.proofs.Common.{◌≡◌, ℕ, ◌≤◌, ◌^◌, Option, Some, None, Result, Ok, Err, List, length, refl, sym, ◌∙◌, subst, ap, arith}
use Rattle.dp_count.specs.Results.{on_ok}
use Rattle.dp_num.specs.Limits.{Fraction}
use Rattle.dp_domain.specs.declared.domains.Domain.{Domain}
use Rattle.dp_domain.specs.declared.metrics.Metric.{Metric}
use Rattle.dp_law.specs.declared.refusals.Refused.{Refused}
use Rattle.dp_law.specs.Mechanism.{Mechanism}
use Rattle.dp_chain.specs.declared.noise.Part.{Part}
use Rattle.dp_chain.specs.Laws.{IsPrivateOn}
use Rattle.dp_chain.specs.Releases.{parts_on, joined, release_on, cost_of}
use Rattle.dp_chain.proofs.ReleaseLaws.{release-law}
use Rattle.dp_pipeline.specs.declared.content.Content.{Content}
use Rattle.dp_pipeline.specs.Accepted.{by_number, part_refused, cost_refused, ratio_of, root_domain, root_metric, root_place, release_cost}
use Rattle.dp_pipeline.specs.Queries.{plan_named, HasCost}
use Rattle.dp_pipeline.specs.StageForms.{SpecValue}
use Rattle.dp_pipeline.proofs.AcceptedContents.{IsTextOf, after}
use Rattle.dp_pipeline.proofs.InRange.{columns_few, ratio_in}
use Rattle.dp_pipeline.proofs.PlanCosts.{named-cost}
use Rattle.dp_pipeline.proofs.Spellings.{plan-few}
use Rattle.dp_session.specs.declared.refusal.Refusal.{Refusal}
use Rattle.dp_session.specs.Singles.{named_or, plan_release}
use Rattle.dp_session.specs.Verdicts.{made_or}
use Rattle.dp_session.proofs.Costs.{cost-draws}
use Rattle.dp_session.proofs.Privacy.{few-bounds}

-- ---- steps

pub named-ok : {A : Type 0} (o : Option A) (x : A) → named_or o ≡ Ok x → o ≡ Some x
named-ok None x h = absurd cc
named-ok (Some y) x h = cc

pub made-ok : {A E : Type 0} (number : E → ℕ) (r : Result A E) (x : A) → made_or number r ≡ Ok x → r ≡ Ok x
made-ok number (Ok y) x h = cc
made-ok number (Err e) x h = absurd cc

numbered-ok : {A E : Type 0} (number : E → ℕ) (r : Result A E) (x : A) → by_number number r ≡ Ok x → r ≡ Ok x
numbered-ok number (Ok y) x h = cc
numbered-ok number (Err e) x h = absurd cc

unwrapped : {A E : Type 0} {x y : A} → ◌≡◌ {A = Result A E} (Ok x) (Ok y) → x ≡ y
unwrapped h = cc

-- ---- releases

-- a release that is made takes the domain on which it is made
pub made-domain : (ratio : Fraction) (parts : List Part) (d : Domain) (m : Metric) (made : Mechanism)
    → release_on ratio parts d m ≡ Ok made → made.input_domain ≡ d
made-domain ratio parts d m made is = go (parts_on ratio parts d m) is
  where
    go : (r : Result (List Mechanism) Refused) → on_ok (joined ratio d m) r ≡ Ok made → made.input_domain ≡ d
    go (Ok ms) e =
        let same : joined ratio d m ms ≡ made = cc in subst (λ (x : Mechanism). x.input_domain ≡ d) same refl
    go (Err refusal) e = absurd cc

-- a release that has a cost at the root is made there
pub record IsMade (pipeline : Content) (spec : SpecValue) : Type 0 where
  pub measurement : Mechanism
  pub made : release_on (ratio_of pipeline) spec.parts (root_domain pipeline) (root_metric pipeline) ≡ Ok measurement
  pub cost : ℕ
  pub costs : cost_of measurement pipeline.distance ≡ Ok cost

pub made-there : (pipeline : Content) (spec : SpecValue) → HasCost pipeline spec → IsMade pipeline spec
unfolding release_cost
made-there pipeline spec has =
    let on = release_on (ratio_of pipeline) spec.parts (root_domain pipeline) (root_metric pipeline) in
    let first = after (by_number part_refused on) (λ (r : Mechanism). by_number cost_refused (cost_of r pipeline.distance)) has.0 has.1 in
    record {
      measurement = first.0;
      made = numbered-ok part_refused on first.0 first.1;
      cost = has.0;
      costs = numbered-ok cost_refused (cost_of first.0 pipeline.distance) has.0 first.2;
    }

pub made-draws : (pipeline : Content) (spec : SpecValue) (m : Mechanism) → HasCost pipeline spec
    → release_on (ratio_of pipeline) spec.parts (root_domain pipeline) (root_metric pipeline) ≡ Ok m
    → length m.shape ≤ 2 ^ 20
made-draws pipeline spec m has is =
    let at = made-there pipeline spec has in
    let same : at.measurement ≡ m = unwrapped (sym at.made ∙ is) in
    subst (λ (r : Mechanism). length r.shape ≤ 2 ^ 20) same
    (cost-draws (length at.measurement.shape) (at.measurement.privacy_map pipeline.distance) at.cost at.costs)

-- ---- plans

-- a plan's release is made of a plan that is there
pub record IsOfPlan (pipeline : Content) (plan : List ℕ) (m : Mechanism) : Type 0 where
  pub spec : SpecValue
  pub there : plan_named pipeline.plans plan ≡ Some spec
  pub made : release_on (ratio_of pipeline) spec.parts (root_domain pipeline) (root_metric pipeline) ≡ Ok m

pub of-plan : (pipeline : Content) (plan : List ℕ) (m : Mechanism) → plan_release pipeline plan ≡ Ok m
    → IsOfPlan pipeline plan m
unfolding plan_release
of-plan pipeline plan m is =
    let first = after (named_or (plan_named pipeline.plans plan))
    (λ (spec : SpecValue). made_or part_refused (release_on (ratio_of pipeline) spec.parts (root_domain pipeline) (root_metric pipeline)))
    m is in
    record {
      spec = first.0;
      there = named-ok (plan_named pipeline.plans plan) first.0 first.1;
      made = made-ok part_refused _ m first.2;
    }

-- .. of an accepted pipeline it has a cost
pub plan-cost : (pipeline : Content) (plan : List ℕ) (spec : SpecValue) → IsTextOf pipeline
    → plan_named pipeline.plans plan ≡ Some spec → HasCost pipeline spec
plan-cost pipeline plan spec known there = named-cost pipeline plan spec known.accepted.made there

pub plan-law : (pipeline : Content) (plan : List ℕ) (m : Mechanism) → IsTextOf pipeline
    → IsOfPlan pipeline plan m → IsPrivateOn (ratio_of pipeline) (root_domain pipeline) (root_metric pipeline) m
plan-law pipeline plan m known of =
    let in_range = known.accepted.in_range in
    let few = few-bounds (length of.spec.parts) (plan-few pipeline.plans plan of.spec known.few of.there) in
    release-law (ratio_of pipeline) of.spec.parts (root_domain pipeline) (root_metric pipeline) m
    (columns_few pipeline in_range) (ratio_in pipeline in_range) few.0 few.1 of.made
