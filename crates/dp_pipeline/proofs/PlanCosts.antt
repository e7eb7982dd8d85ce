-- The release of each plan of an accepted pipeline has a cost at its root.
use Rattle.std.proofs.Common.{◌≡◌, ℕ, Bool, true, false, cond, Option, Some, None, IfSome, option_map, Ok, List, [], ◌∷◌, sym, subst}
use Rattle.dp_num.specs.Limits.{Fraction}
use Rattle.dp_domain.specs.Distance.{text_eq}
use Rattle.dp_pipeline.specs.declared.content.Content.{Content}
use Rattle.dp_pipeline.specs.declared.plan.Plan.{Plan}
use Rattle.dp_pipeline.specs.Accepted.{plans_made, release_cost, ratio_of, root_place}
use Rattle.dp_pipeline.specs.Places.{PlaceValue}
use Rattle.dp_pipeline.specs.Queries.{plan_named, HasCost}
use Rattle.dp_pipeline.specs.StageForms.{SpecValue}
use Rattle.dp_pipeline.proofs.AcceptedContents.{after}

-- a release that has a cost at a place
abbrev pub HasCostAt : Fraction → PlaceValue → SpecValue → Type 0
HasCostAt ratio at spec = (cost : ℕ) × (release_cost ratio spec.parts at ≡ Ok cost)

plan-cost : (ratio : Fraction) (at : PlaceValue) (plans : List Plan) (name : List ℕ) (spec : SpecValue)
    → plans_made ratio at plans ≡ Ok tt → plan_named plans name ≡ Some spec → HasCostAt ratio at spec
unfolding plans_made plan_named
plan-cost ratio at [] name spec made is = absurd cc
plan-cost ratio at (plan ∷ plans) name spec made is =
    let first = after (release_cost ratio plan.spec.parts at) (λ cost. plans_made ratio at plans) tt made in
    go (text_eq name plan.name) (first.0, first.1) (λ e. plan-cost ratio at plans name spec first.2 e) is
  where
    go : (test : Bool) → HasCostAt ratio at plan.spec → (plan_named plans name ≡ Some spec → HasCostAt ratio at spec)
        → cond test (Some plan.spec) (plan_named plans name) ≡ Some spec → HasCostAt ratio at spec
    go true cost later e = let same : plan.spec ≡ spec = cc in subst (HasCostAt ratio at) same cost
    go false cost later e = later e

pub named-cost : (content : Content) (name : List ℕ) (spec : SpecValue)
    → plans_made (ratio_of content) (root_place content) content.plans ≡ Ok tt
    → plan_named content.plans name ≡ Some spec → HasCost content spec
named-cost content name spec made is = plan-cost (ratio_of content) (root_place content) content.plans name spec made is

-- .. as code has the plan
pub found-cost : {T : Type 0} (view : T → SpecValue) (content : Content) (name : List ℕ) (found : Option T)
    → plans_made (ratio_of content) (root_place content) content.plans ≡ Ok tt
    → option_map view found ≡ plan_named content.plans name → IfSome found (λ t. HasCost content (view t))
found-cost view content name None made is = tt
found-cost view content name (Some t) made is = named-cost content name (view t) made (sym is)
