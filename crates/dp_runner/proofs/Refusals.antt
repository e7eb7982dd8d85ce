-- A text that is no pipeline is refused with a number from 1 to 9.
use Rattle.std.proofs.Common.{◌≡◌, ◌^◌, ℕ, Bool, true, false, List, [], ◌∷◌, length, Option, Some, None, Result, Ok, Err, refl, arith}
use Rattle.std.specs.Prelude.{if◌then◌else◌, nat_le}
use Rattle.std.specs.Option.{ok_or}
use Rattle.dp_count.specs.Results.{◌>>=◌}
use Rattle.dp_num.specs.Limits.{Fraction}
use Rattle.dp_law.specs.declared.refusals.Refused.{Refused}
use Rattle.dp_law.specs.declared.refusals.Refused.TheVariants as refused
use Rattle.dp_chain.specs.declared.faults.CostFault.{CostFault}
use Rattle.dp_chain.specs.declared.faults.CostFault.TheVariants as cost
use Rattle.dp_chain.specs.declared.noise.Part.{Part}
use Rattle.dp_chain.specs.Releases.{release_on, cost_of}
use Rattle.dp_pipeline.specs.declared.plan.Plan.{Plan}
use Rattle.dp_pipeline.specs.Accepted.{part_refused, cost_refused, by_number, release_cost, plans_made, is_in_range, ratio_of, root_place, accepted}
use Rattle.dp_pipeline.specs.Contents.{content_of}
use Rattle.dp_pipeline.specs.Json.{json_of}
use Rattle.dp_pipeline.specs.Places.{PlaceValue}
use Rattle.dp_runner.specs.Pipelines.{IsNumber}

-- the steps of a refusal
step-number : {A B : Type 0} (r : Result A ℕ) (next : A → Result B ℕ) (c : ℕ)
    → ((e : ℕ) → r ≡ Err e → IsNumber e) → ((x : A) (e : ℕ) → next x ≡ Err e → IsNumber e)
    → (r >>= next) ≡ Err c → IsNumber c
step-number (Ok x) next c early late h = late x c h
step-number (Err e) next c early late h =
    let same : e ≡ c = cc in
    rw (← same) (early e refl)

missing-number : {A : Type 0} (found : Option A) (n e : ℕ) → IsNumber n → ok_or found n ≡ Err e → IsNumber e
missing-number None n e good h =
    let same : n ≡ e = cc in
    rw (← same) good
missing-number (Some x) n e good h = absurd cc

test-number : {A : Type 0} (holds : Bool) (x : A) (n e : ℕ) → IsNumber n → (if holds then Ok x else Err n) ≡ Err e → IsNumber e
test-number true x n e good h = absurd cc
test-number false x n e good h =
    let same : n ≡ e = cc in
    rw (← same) good

by-number : {A E : Type 0} (number : E → ℕ) (r : Result A E) (e : ℕ) → ((x : E) → IsNumber (number x))
    → by_number number r ≡ Err e → IsNumber e
by-number number (Ok x) e good h = absurd cc
by-number number (Err x) e good h =
    let same : number x ≡ e = cc in
    rw (← same) (good x)

part-number : (refusal : Refused) → IsNumber (part_refused refusal)
part-number refused.Kind = (omega arith, omega arith)
part-number refused.Metric = (omega arith, omega arith)
part-number refused.Bound = (omega arith, omega arith)

cost-number : (fault : CostFault) → IsNumber (cost_refused fault)
cost-number cost.Distance = (omega arith, omega arith)
cost-number cost.Draws = (omega arith, omega arith)

release-number : (ratio : Fraction) (parts : List Part) (at : PlaceValue) (c : ℕ) → release_cost ratio parts at ≡ Err c → IsNumber c
unfolding release_cost
release-number ratio parts at c h =
    step-number (by_number part_refused (release_on ratio parts at.domain at.metric))
    (λ release. by_number cost_refused (cost_of release at.distance)) c
    (λ e w. by-number part_refused (release_on ratio parts at.domain at.metric) e part-number w)
    (λ release e w. by-number cost_refused (cost_of release at.distance) e cost-number w) h

plans-number : (ratio : Fraction) (at : PlaceValue) (plans : List Plan) (c : ℕ) → plans_made ratio at plans ≡ Err c → IsNumber c
unfolding plans_made
plans-number ratio at [] c h = absurd cc
plans-number ratio at (plan ∷ plans) c h =
    step-number (release_cost ratio plan.spec.parts at) (λ units. plans_made ratio at plans) c
    (λ e w. release-number ratio plan.spec.parts at e w) (λ units e w. plans-number ratio at plans e w) h

-- each refusal of a text has such a number
pub refusal-number : (bytes : List ℕ) (c : ℕ) → accepted bytes ≡ Err c → IsNumber c
unfolding accepted
refusal-number bytes c h =
    step-number (if nat_le (length bytes) (2 ^ 20) then Ok bytes else Err 9) _ c
    (λ e w. test-number (nat_le (length bytes) (2 ^ 20)) bytes 9 e (omega arith, omega arith) w)
    (λ text e w. step-number (ok_or (json_of text) 6) _ e
    (λ e w. missing-number (json_of text) 6 e (omega arith, omega arith) w)
    (λ d e w. step-number (ok_or (content_of d) 7) _ e
    (λ e w. missing-number (content_of d) 7 e (omega arith, omega arith) w)
    (λ content e w. step-number (if is_in_range content then Ok content else Err 8) _ e
    (λ e w. test-number (is_in_range content) content 8 e (omega arith, omega arith) w)
    (λ ranged e w. step-number (plans_made (ratio_of ranged) (root_place ranged) ranged.plans) (λ made. Ok ranged) e
    (λ e w. plans-number (ratio_of ranged) (root_place ranged) ranged.plans e w)
    (λ made e w. absurd cc) w) w) w) w) h
