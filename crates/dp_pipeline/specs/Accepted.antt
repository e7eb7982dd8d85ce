-- Which texts are pipelines, and why others are refused: the refusals in the order in which they are looked for.
use Rattle.std.specs.Prelude.{◌≡◌, ℕ, ◌^◌, ◌==◌, ◌&&◌, ◌||◌, ◌≤◌, ◌<◌, IfSome, Bool, true, false, List, [], ◌∷◌, length, Option, Some, None, Result, Ok, Err, if◌then◌else◌, nat_le, ⊤}
use Rattle.std.specs.Option.{ok_or}
use Rattle.std.specs.List.{list_all}
use Rattle.dp_count.specs.Results.{◌>>=◌}
use Rattle.dp_budget.specs.Rules.{are_mids}
use Rattle.dp_budget.specs.declared.budget.Rule.{Rule}
use Rattle.dp_budget.specs.declared.budget.Rule.TheVariants as rule
use Rattle.dp_num.specs.Limits.{Fraction, is_ratio}
use Rattle.dp_domain.specs.declared.domains.Domain.{Domain}
use Rattle.dp_domain.specs.declared.domains.Domain.TheVariants as domain
use Rattle.dp_domain.specs.declared.metrics.Metric.{Metric}
use Rattle.dp_domain.specs.Users.{user_metric}
use Rattle.dp_law.specs.declared.refusals.Refused.{Refused}
use Rattle.dp_law.specs.declared.refusals.Refused.TheVariants as refused
use Rattle.dp_rowwise.specs.Categories.{are_different}
use Rattle.dp_chain.specs.declared.faults.CostFault.{CostFault}
use Rattle.dp_chain.specs.declared.faults.CostFault.TheVariants as cost
use Rattle.dp_chain.specs.declared.noise.Part.{Part}
use Rattle.dp_chain.specs.Releases.{release_on, cost_of}
use Rattle.dp_pipeline.specs.declared.content.Content.{Content}
use Rattle.dp_pipeline.specs.declared.content.Siblings.{Siblings}
use Rattle.dp_pipeline.specs.declared.content.Siblings.TheVariants as siblings
use Rattle.dp_pipeline.specs.declared.plan.Plan.{Plan}
use Rattle.dp_pipeline.specs.Json.{json_of}
use Rattle.dp_pipeline.specs.Places.{PlaceValue}
use Rattle.dp_pipeline.specs.Contents.{content_of}

-- ---- the numbers of the refusals

-- no JSON text; not of the form; a number or a name out of its range; too long
abbrev pub text_refused : ℕ
text_refused = 6

abbrev pub form_refused : ℕ
form_refused = 7

abbrev pub range_refused : ℕ
range_refused = 8

abbrev pub size_refused : ℕ
size_refused = 9

-- a part that is not made
abbrev pub part_refused : Refused → ℕ
part_refused refused.Kind = 1
part_refused refused.Metric = 2
part_refused refused.Bound = 3

-- a release that has no cost
abbrev pub cost_refused : CostFault → ℕ
cost_refused cost.Distance = 4
cost_refused cost.Draws = 5

-- a refusal by its number
abbrev pub by_number : {A E : Type 0} → (E → ℕ) → Result A E → Result A ℕ
by_number number (Ok x) = Ok x
by_number number (Err refusal) = Err (number refusal)

-- ---- ranges

-- 1 to 64 bytes
abbrev pub is_name_length : ℕ → Bool
is_name_length n = nat_le 1 n && nat_le n 64

-- 1 to 64 columns
abbrev pub few_columns : ℕ → Bool
few_columns n = nat_le 1 n && nat_le n 64

-- names of 1 to 64 bytes, no two equal
abbrev pub are_names : List (List ℕ) → Bool
are_names columns = list_all (λ name. is_name_length (length name)) columns && are_different columns

-- 1 to 64 such names
unfoldable pub are_columns : List (List ℕ) → Bool
are_columns columns = few_columns (length columns) && are_names columns

-- an ASCII letter, a digit, `_` or `-`
unfoldable pub is_name_byte : ℕ → Bool
is_name_byte b =
    nat_le 65 b && nat_le b 90 || nat_le 97 b && nat_le b 122 || nat_le 48 b && nat_le b 57 || b == 95 || b == 45

unfoldable pub is_plan_name : List ℕ → Bool
is_plan_name name = is_name_length (length name) && list_all is_name_byte name

-- the mids of a compositor are within their limits; a limit is a count, so it always is
abbrev pub is_rule : Rule → Bool
is_rule (rule.Compositor mids) = are_mids mids
is_rule (rule.Filter limit) = true
is_rule rule.Odometer = true

-- at most 256 plans with such names
abbrev pub are_plans : List Plan → Bool
are_plans plans = nat_le (length plans) 256 && list_all (λ plan. is_plan_name plan.name) plans

-- there is a form of that version
abbrev pub is_version : ℕ → Bool
is_version version = version == 1 || version == 2

unfoldable pub is_in_range : Content → Bool
is_in_range content =
    is_version content.version && are_columns content.columns && is_ratio content.p content.q
    && is_rule content.root && are_plans content.plans

-- ---- plans

-- the records of a pipeline
abbrev pub root_domain : Content → Domain
root_domain content = domain.Rows (length content.columns)

abbrev pub root_metric : Content → Metric
root_metric content = user_metric content.user

abbrev pub ratio_of : Content → Fraction
ratio_of content = record { p = content.p; q = content.q }

-- siblings stay open exactly where version 2 says so
abbrev pub says_open : Option Siblings → Bool
says_open None = false
says_open (Some siblings.Open) = true
says_open (Some siblings.Frozen) = false

abbrev pub siblings_open : Content → Bool
siblings_open content = says_open content.siblings

-- where the plans are made
abbrev pub root_place : Content → PlaceValue
root_place content = record {
  domain = root_domain content;
  metric = root_metric content;
  distance = content.distance;
}

-- what a release costs at a place, or the number of its refusal
unfoldable pub release_cost : Fraction → List Part → PlaceValue → Result ℕ ℕ
release_cost ratio parts at = do
  release ← by_number part_refused (release_on ratio parts at.domain at.metric)
  by_number cost_refused (cost_of release at.distance)

-- no plan is refused, or the number of the first that is
unfoldable pub plans_made : Fraction → PlaceValue → List Plan → Result ⊤ ℕ
plans_made ratio at [] = Ok tt
plans_made ratio at (plan ∷ plans) = do
  cost ← release_cost ratio plan.spec.parts at
  plans_made ratio at plans

-- ---- texts

-- the pipeline that the bytes spell, or the number of its refusal
unfoldable pub accepted : List ℕ → Result Content ℕ
accepted bytes = do
  text ← if nat_le (length bytes) (2 ^ 20) then Ok bytes else Err size_refused
  d ← ok_or (json_of text) text_refused
  content ← ok_or (content_of d) form_refused
  ranged ← if is_in_range content then Ok content else Err range_refused
  made ← plans_made (ratio_of ranged) (root_place ranged) ranged.plans
  Ok ranged

-- ---- pipelines

-- the numbers that a form bounds: a distance and a limit are counts, and a user's column is one of the columns
abbrev pub IsLimit : Rule → Type 0
IsLimit (rule.Compositor mids) = Unit {0}
IsLimit (rule.Filter limit) = limit ≤ 2 ^ 32
IsLimit rule.Odometer = Unit {0}

pub record IsBounded (content : Content) : Type 0 where
  pub distance : content.distance ≤ 2 ^ 32
  pub limit : IsLimit content.root
  pub user : IfSome content.user (λ column. column < length content.columns)

-- what holds of an accepted pipeline, whose ratio is p / q
pub record IsAccepted (content : Content) (ratio : Fraction) : Type 0 where
  pub in_range : is_in_range content ≡ true
  pub bounded : IsBounded content
  pub made : plans_made (ratio_of content) (root_place content) content.plans ≡ Ok tt
  pub ratio_is : ratio ≡ ratio_of content
