-- What a query's line says, if it is of one of the two forms.
use Rattle.std.specs.Prelude.{◌≡◌, ℕ, ◌≤◌, ◌^◌, List, [], ◌∷◌, Option, Some, None, Ok, if◌then◌else◌, codes, IsSome}
use Rattle.std.specs.Option.{option_or}
use Rattle.serde_json.specs.Data.{Data}
use Rattle.dp_budget.specs.Rules.{BudgetValue, fresh, are_mids, declared}
use Rattle.dp_budget.specs.declared.budget.Rule.{Rule}
use Rattle.dp_budget.specs.declared.budget.Rule.TheVariants as rule
use Rattle.dp_domain.specs.Distance.{text_eq}
use Rattle.dp_pipeline.specs.declared.content.Content.{Content}
use Rattle.dp_pipeline.specs.declared.plan.Plan.{Plan}
use Rattle.dp_pipeline.specs.declared.query.Query.{Query}
use Rattle.dp_pipeline.specs.declared.query.Query.TheVariants as query
use Rattle.dp_pipeline.specs.Accepted.{ratio_of, root_place, release_cost}
use Rattle.dp_pipeline.specs.Contents.{member_by, has_only}
use Rattle.dp_pipeline.specs.Json.{◌>>=◌, json_of, list_of, count_of, text_of}
use Rattle.dp_pipeline.specs.RootForms.{rule_of}
use Rattle.dp_pipeline.specs.StageForms.{SpecValue, spec_of, stage_of}

-- the release of the plan of that name
unfoldable pub plan_named : List Plan → List ℕ → Option SpecValue
plan_named [] name = None
plan_named (plan ∷ plans) name = if text_eq name plan.name then Some plan.spec else plan_named plans name

-- the release has a cost where the plans are made
abbrev pub HasCost : Content → SpecValue → Type 0
HasCost content spec =
    (cost : ℕ) × (release_cost (ratio_of content) spec.parts (root_place content) ≡ Ok cost)

-- a release: the name of a plan stands for its own
abbrev pub asked_as : Content → Data → Option (List ℕ) → Option SpecValue
asked_as content d None = spec_of content.columns d
asked_as content d (Some name) = plan_named content.plans name

unfoldable pub asked_of : Content → Data → Option SpecValue
asked_of content d = asked_as content d (text_of d)

-- `{"node": N, "ask": X}`
abbrev pub ask_names : List (List ℕ)
ask_names = codes "node" ∷ codes "ask" ∷ []

unfoldable pub ask_of : Content → Data → Option Query
ask_of content d = do
  node ← member_by count_of (codes "node") d
  spec ← member_by (asked_of content) (codes "ask") d
  if has_only ask_names d then Some (query.Ask node spec) else None

-- a child's budget: mids within their limits, or a limit
abbrev pub child_budget : Rule → Option BudgetValue
child_budget (rule.Compositor mids) = if are_mids mids then Some (fresh (rule.Compositor mids)) else None
child_budget (rule.Filter limit) = Some (fresh (rule.Filter limit))
child_budget rule.Odometer = None

unfoldable pub budget_of : Data → Option BudgetValue
budget_of d = rule_of d >>= child_budget

-- `{"node": N, "open": LINE, "distance": D, "budget": B}`
abbrev pub open_names : List (List ℕ)
open_names = codes "node" ∷ codes "open" ∷ codes "distance" ∷ codes "budget" ∷ []

unfoldable pub open_of : Content → Data → Option Query
open_of content d = do
  node ← member_by count_of (codes "node") d
  stages ← member_by (list_of (stage_of content.columns)) (codes "open") d
  distance ← member_by count_of (codes "distance") d
  budget ← member_by budget_of (codes "budget") d
  if has_only open_names d then Some (query.Open node stages distance budget) else None

-- the query that a line spells, if it spells one
unfoldable pub query_of : Content → List ℕ → Option Query
query_of content bytes = json_of bytes >>= (λ d. option_or (ask_of content d) (open_of content d))

-- what a query's numbers are: counts, and a budget that declares its sum and of which nothing is spent
abbrev pub IsQuery : Query → Type 0
IsQuery (query.Ask node spec) = node ≤ 2 ^ 32
IsQuery (query.Open node stages distance budget) =
    (node ≤ 2 ^ 32) × (distance ≤ 2 ^ 32) × (budget ≡ fresh budget.rule) × IsSome (declared budget.rule)
