-- What is written of one release, and of a refused one.
use Rattle.std.proofs.Common.{◌≡◌, ◌∙◌, ◌^◌, ◌≤◌, ℕ, List, [], length, map, Option, Some, None, Result, Ok, Err, refl, sym, ap, subst}
use Rattle.std.specs.Prelude.{IfOk, option_map}
use Rattle.std.specs.List.{repeat}
use Rattle.std.proofs.lemmas.List.{length-map}
use Rattle.dp_count.specs.Results.{on_ok}
use Rattle.dp_domain.specs.declared.values.Value.{Value}
use Rattle.dp_draws.specs.Taking.{Turn, take_draws}
use Rattle.dp_draws.proofs.Taking.{take_draws-none}
use Rattle.dp_group.specs.Grouped.{answers_on, groups_of, grouped}
use Rattle.dp_law.specs.declared.faults.ReleaseFault.{ReleaseFault}
use Rattle.dp_law.specs.declared.faults.ReleaseFault.TheVariants as fault
use Rattle.dp_law.specs.declared.pieces.Piece.{Piece}
use Rattle.dp_law.specs.Mechanism.{Mechanism}
use Rattle.dp_law.specs.Releasing.{Released}
use Rattle.dp_chain.specs.Releases.{release_on}
use Rattle.dp_pipeline.specs.declared.content.Content.{Content}
use Rattle.dp_pipeline.specs.Accepted.{ratio_of, root_domain, root_metric, part_refused}
use Rattle.dp_pipeline.specs.Queries.{HasCost}
use Rattle.dp_pipeline.specs.StageForms.{SpecValue}
use Rattle.dp_session.specs.declared.faults.JudgeFault.{JudgeFault}
use Rattle.dp_session.specs.declared.faults.JudgeFault.TheVariants as judge_fault
use Rattle.dp_session.specs.declared.refusal.Refusal.{Refusal}
use Rattle.dp_session.specs.Sessions.{Drawing, Gives}
use Rattle.dp_session.specs.Settling.{MadeOr}
use Rattle.dp_session.specs.Singles.{Single, single_slot, refusal_lines}
use Rattle.dp_session.specs.Verdicts.{made_or}
use Rattle.dp_session.proofs.SinglePlans.{made-ok, made-draws}

-- an answer that is changed is the changed function's
pub released-changed : (step : List ℕ → ℕ → Turn) (shape : List ℕ) (function : List ℕ → List Piece)
    → (change : List Piece → List Piece) (before : List ℕ) (result : Result (List Piece) ReleaseFault) (after : List ℕ)
    → Released step shape function before result after
    → Released step shape (λ draws. change (function draws)) before (on_ok change result) after
released-changed step shape function change before (Ok answer) after h =
    (go (take_draws step before shape).draws h.0, h.1)
  where
    go : (drawn : Option (List ℕ)) → Some answer ≡ option_map function drawn
        → Some (change answer) ≡ option_map (λ draws. change (function draws)) drawn
    go None e = absurd cc
    go (Some draws) e = let same : answer ≡ function draws = cc in ap (λ (a : List Piece). Some (change a)) same
released-changed step shape function change before (Err fault.DrawFault) after h = h
released-changed step shape function change before (Err fault.NoMemory) after h = h

-- what is released on the groups of a value is released by groups
pub released-grouped : (step : List ℕ → ℕ → Turn) (m : Mechanism) (column : ℕ) (texts : List (List ℕ)) (v : Value)
    → (values : List Value) (count : ℕ) (before : List ℕ) (result : Result (List Piece) ReleaseFault) (after : List ℕ)
    → values ≡ groups_of column texts v → count ≡ length values
    → Released step (repeat count m.shape) (answers_on m values) before result after
    → Released step (grouped column texts m).shape ((grouped column texts m).function v) before result after
released-grouped step m column texts v values count before result after made many h =
    let whole : count ≡ length texts =
    many ∙ ap length made ∙ length-map texts (λ text. _) in
    let on_groups : Released step (repeat count m.shape) (answers_on m (groups_of column texts v)) before result after =
    subst (λ (vs : List Value). Released step (repeat count m.shape) (answers_on m vs) before result after) made h in
    subst (λ (n : ℕ). Released step (repeat n m.shape) (answers_on m (groups_of column texts v)) before result after)
    whole on_groups

-- a refusal takes no draws
pub refusal-made : (step : List ℕ → ℕ → Turn) (state : List ℕ) (verdict : Result Single Refusal) (refused : Refusal)
    → (v : Value) (lines : List ℕ) → verdict ≡ Err refused → lines ≡ refusal_lines refused
    → (draws : List ℕ)
    × Gives (record { step = step; before = state; after = state }) (single_slot verdict v).shape (Some draws)
    × (lines ≡ (single_slot verdict v).out draws)
refusal-made step state (Ok single) refused v lines is same = absurd cc
refusal-made step state (Err other) refused v lines is same =
    let e : refused ≡ other = cc in ([], take_draws-none step state, same ∙ ap refusal_lines e)

-- the release of a plan that has a cost takes few draws
pub plan-draws : {T : Type 0} (mechanism : T → Mechanism) (pipeline : Content) (spec : SpecValue) (result : Result T JudgeFault)
    → HasCost pipeline spec
    → MadeOr mechanism result
    (made_or part_refused (release_on (ratio_of pipeline) spec.parts (root_domain pipeline) (root_metric pipeline)))
    → IfOk result (λ release. length (mechanism release).shape ≤ 2 ^ 20)
plan-draws mechanism pipeline spec (Ok release) has is =
    made-draws pipeline spec (mechanism release) has (made-ok part_refused _ (mechanism release) is)
plan-draws mechanism pipeline spec (Err judge_fault.NoMemory) has is = tt
plan-draws mechanism pipeline spec (Err reason) has is = tt
