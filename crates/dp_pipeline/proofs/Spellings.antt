-- What is known of a query that a line spells: a release has 1 to 16 parts, and a child's budget declares what it admits.
use Rattle.std.proofs.Common.{◌≡◌, ℕ, Bool, true, false, cond, Option, Some, None, List, [], ◌∷◌, length, option_map, codes, refl, subst, ◌∙◌}
use Rattle.std.specs.Prelude.{IsSome}
use Rattle.std.specs.Option.{option_or}
use Rattle.serde_json.specs.Data.{Data}
use Rattle.dp_budget.specs.Rules.{BudgetValue, declared, fresh, are_mids}
use Rattle.dp_budget.specs.declared.budget.Rule.{Rule}
use Rattle.dp_budget.specs.declared.budget.Rule.TheVariants as rule
use Rattle.dp_chain.specs.declared.noise.Part.{Part}
use Rattle.dp_chain.specs.declared.stage.Stage.{Stage}
use Rattle.dp_domain.specs.Distance.{text_eq}
use Rattle.dp_pipeline.specs.declared.content.Content.{Content}
use Rattle.dp_pipeline.specs.declared.plan.Plan.{Plan}
use Rattle.dp_pipeline.specs.declared.query.Query.{Query}
use Rattle.dp_pipeline.specs.declared.query.Query.TheVariants as query
use Rattle.dp_pipeline.specs.Contents.{member_by, has_only}
use Rattle.dp_pipeline.specs.Json.{◌>>=◌, json_of, array_of, list_of, all_of, count_of, text_of, member_at}
use Rattle.dp_pipeline.specs.Queries.{plan_named, asked_as, asked_of, ask_names, ask_of, child_budget, budget_of, open_names, open_of, query_of}
use Rattle.dp_pipeline.specs.RootForms.{rule_of}
use Rattle.dp_pipeline.specs.StageForms.{SpecValue, spec_of, spec_after, after_all, all_in, one_in, part_of, part_in, few_parts, stage_of}

-- ---- steps

-- a step that gave a value had one
pub step : {A B : Type 0} (o : Option A) (f : A → Option B) (b : B) → (o >>= f) ≡ Some b → (a : A) × (o ≡ Some a) × (f a ≡ Some b)
step None f b h = absurd cc
step (Some a) f b h = (a, refl, h)

-- a choice of something and nothing that gave a value
pub passed : {A : Type 0} (test : Bool) (a b : A) → cond test (Some a) None ≡ Some b → (test ≡ true) × (a ≡ b)
passed true a b h = (refl, cc)
passed false a b h = absurd cc

pub mapped : {A B : Type 0} (f : A → B) (o : Option A) (b : B) → option_map f o ≡ Some b → (a : A) × (o ≡ Some a) × (f a ≡ b)
mapped f None b h = absurd cc
mapped f (Some a) b h = (a, refl, cc)

-- ---- releases

-- 1 to 16 parts
abbrev pub IsFew : SpecValue → Type 0
IsFew spec = few_parts (length spec.parts) ≡ true

all-few : (columns : List (List ℕ)) (items : List Data) (spec : SpecValue) → all_in columns items ≡ Some spec → IsFew spec
unfolding all_in
all-few columns items spec h =
    let parts = step (all_of (part_of columns) items) _ spec h in
    let few = passed (few_parts (length parts.0)) (record { parts = parts.0; is_all = true }) spec parts.2 in
    rw (← few.1) few.0

one-few : (columns : List (List ℕ)) (items : List Data) (spec : SpecValue) → one_in columns items ≡ Some spec → IsFew spec
unfolding one_in
one-few columns items spec h =
    let part = mapped (λ (part : Part). record { parts = part ∷ []; is_all = false }) (part_in columns items) spec h in
    rw (← part.2) refl

-- a release that a text spells
pub spec-few : (columns : List (List ℕ)) (d : Data) (spec : SpecValue) → spec_of columns d ≡ Some spec → IsFew spec
unfolding spec_of
spec-few columns d spec h =
    let items = step (array_of d) _ spec h in go items.0 (after_all items.0) items.2
  where
    go : (items : List Data) (rest : Option (List Data)) → spec_after columns items rest ≡ Some spec → IsFew spec
    go items None e = one-few columns items spec e
    go items (Some rest) e = all-few columns rest spec e

-- all plans of a pipeline are of so many
abbrev pub AreFew : List Plan → Type 0
AreFew [] = Unit {0}
AreFew (plan ∷ plans) = IsFew plan.spec × AreFew plans

pub plan-few : (plans : List Plan) (name : List ℕ) (spec : SpecValue) → AreFew plans → plan_named plans name ≡ Some spec → IsFew spec
unfolding plan_named
plan-few [] name spec few h = absurd cc
plan-few (plan ∷ plans) name spec few h = go (text_eq name plan.name) (plan-few plans name spec few.1) h
  where
    go : (test : Bool) → (plan_named plans name ≡ Some spec → IsFew spec) → cond test (Some plan.spec) (plan_named plans name) ≡ Some spec → IsFew spec
    go true later e = let same : plan.spec ≡ spec = cc in subst IsFew same few.0
    go false later e = later e

asked-few : (content : Content) (d : Data) (name : Option (List ℕ)) (spec : SpecValue) → AreFew content.plans → asked_as content d name ≡ Some spec → IsFew spec
asked-few content d None spec few h = spec-few content.columns d spec h
asked-few content d (Some name) spec few h = plan-few content.plans name spec few h

-- ---- budgets

child-declares : (r : Rule) (budget : BudgetValue) → child_budget r ≡ Some budget → IsSome (declared budget.rule)
child-declares (rule.Compositor mids) budget h =
    let same = passed (are_mids mids) (fresh (rule.Compositor mids)) budget h in rw (← same.1) refl
child-declares (rule.Filter limit) budget h = let same : fresh (rule.Filter limit) ≡ budget = cc in rw (← same) refl
child-declares rule.Odometer budget h = absurd cc

-- ---- queries

-- the query is an ask
abbrev pub IsAnAsk : Query → Type 0
IsAnAsk (query.Ask node spec) = Unit {0}
IsAnAsk (query.Open node stages distance budget) = ⊥

ask-only : (content : Content) (d : Data) (q : Query) → ask_of content d ≡ Some q → IsAnAsk q
unfolding ask_of
ask-only content d q h =
    let node = step (member_by count_of (codes "node") d) _ q h in
    let spec = step (member_by (asked_of content) (codes "ask") d) _ q node.2 in
    let same = passed (has_only ask_names d) (query.Ask node.0 spec.0) q spec.2 in
    subst IsAnAsk same.1 tt

-- what is known of a query
abbrev pub IsSound : Query → Type 0
IsSound (query.Ask node spec) = IsFew spec
IsSound (query.Open node stages distance budget) = IsSome (declared budget.rule)

ask-sound : (content : Content) (d : Data) (q : Query) → AreFew content.plans → ask_of content d ≡ Some q → IsSound q
unfolding ask_of asked_of
ask-sound content d q few h =
    let node = step (member_by count_of (codes "node") d) _ q h in
    let spec = step (member_by (asked_of content) (codes "ask") d) _ q node.2 in
    let there = step (member_at (codes "ask") d) (asked_of content) spec.0 spec.1 in
    let same = passed (has_only ask_names d) (query.Ask node.0 spec.0) q spec.2 in
    subst IsSound same.1 (asked-few content there.0 (text_of there.0) spec.0 few there.2)

open-sound : (content : Content) (d : Data) (q : Query) → open_of content d ≡ Some q → IsSound q
unfolding open_of budget_of
open-sound content d q h =
    let node = step (member_by count_of (codes "node") d) _ q h in
    let stages = step (member_by (list_of (stage_of content.columns)) (codes "open") d) _ q node.2 in
    let distance = step (member_by count_of (codes "distance") d) _ q stages.2 in
    let budget = step (member_by budget_of (codes "budget") d) _ q distance.2 in
    let there = step (member_at (codes "budget") d) budget_of budget.0 budget.1 in
    let by_rule = step (rule_of there.0) child_budget budget.0 there.2 in
    let same = passed (has_only open_names d) (query.Open node.0 stages.0 distance.0 budget.0) q budget.2 in
    subst IsSound same.1 (child-declares by_rule.0 budget.0 by_rule.2)

-- ..which a line spells
pub query-sound : (content : Content) (bytes : List ℕ) (q : Query) → AreFew content.plans → query_of content bytes ≡ Some q → IsSound q
unfolding query_of
query-sound content bytes q few h = let d = step (json_of bytes) _ q h in go d.0 (ask_of content d.0) refl d.2
  where
    go : (d : Data) (ask : Option Query) → ask_of content d ≡ ask → option_or ask (open_of content d) ≡ Some q → IsSound q
    go d None e h = open-sound content d q h
    go d (Some other) e h = ask-sound content d q few (e ∙ h)

-- an open's budget declares what it admits, whatever the plans
pub open-declares : (content : Content) (bytes : List ℕ) (node : ℕ) (stages : List Stage) (distance : ℕ) (budget : BudgetValue) → query_of content bytes ≡ Some (query.Open node stages distance budget) → IsSome (declared budget.rule)
unfolding query_of
open-declares content bytes node stages distance budget h = let d = step (json_of bytes) _ _ h in go d.0 (ask_of content d.0) refl d.2
  where
    go : (d : Data) (ask : Option Query) → ask_of content d ≡ ask → option_or ask (open_of content d) ≡ Some (query.Open node stages distance budget) → IsSome (declared budget.rule)
    go d None e h = open-sound content d (query.Open node stages distance budget) h
    go d (Some other) e h = absurd (ask-only content d (query.Open node stages distance budget) (e ∙ h))
