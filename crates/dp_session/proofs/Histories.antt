-- The accepted queries of any lines make a history in which each was admitted, and no child has an odometer.
use Rattle.std.proofs.Common.{◌≡◌, ℕ, ◌+◌, ◌≤◌, ◌<◌, Bool, true, false, cond, Option, Some, None, inl, inr, Result, Ok, Err, List, [], ◌∷◌, length, is_some, option_map, eqb, ltb, refl, arith}
use Rattle.std.proofs.lemmas.Bool.Decides.{nat_tests}
use Rattle.dp_budget.specs.declared.over.Over.{Over}
use Rattle.dp_budget.specs.declared.budget.Rule.{Rule}
use Rattle.dp_budget.specs.Rules.{refusal}
use Rattle.dp_tree.specs.declared.faults.SeatFault.TheVariants as seats
use Rattle.dp_tree.specs.History.{Seat, Event, Node, number_of, node_of, cost_of, newest, node_at, account, total, over_at, seat_fault, seat_refusal, Accepted}
use Rattle.dp_tree.specs.Losses.{DeclaresAll}
use Rattle.dp_pipeline.specs.declared.content.Content.{Content}
use Rattle.dp_pipeline.specs.Places.{PlaceValue}
use Rattle.dp_session.specs.declared.refusal.Refusal.{Refusal}
use Rattle.dp_session.specs.Verdicts.{Grant, place_of, root_seat, verdict, past_events}
use Rattle.dp_pipeline.proofs.Spellings.{open-declares}
use Rattle.dp_session.proofs.Standing.{judge-number, newest-le, no-events, events-more}
use Rattle.dp_session.proofs.Verdicts.{IsAsk, IsOpen, ask-or-open}

-- the node at a place is there
pub place-node : (o : Option Node) (at : PlaceValue) → option_map (λ (node : Node). place_of node.seat) o ≡ Some at
    → (node : Node) × (o ≡ Some node) × (at ≡ place_of node.seat)
place-node None at h = absurd cc
place-node (Some node) at h = (node, refl, cc)

-- where a child may sit, its distance is no less than the mapped one, and its total is within the node's budget
seated : (deep near : Bool) (mapped : ℕ) (over : Option Over)
    → cond deep (Some seats.Depth) (cond near (Some (seats.ChildDistance mapped)) (option_map seats.Over over)) ≡ None
    → (near ≡ false) × (over ≡ None)
seated true near mapped over h = absurd cc
seated false true mapped over h = absurd cc
seated false false mapped None h = (refl, refl)
seated false false mapped (Some over) h = absurd cc

pub seat-admits : (root : Seat) (past : List Event) (i distance mapped : ℕ) (rule : Rule) (node : Node)
    → node_at root past i ≡ Some node → seat_fault root past i distance mapped rule ≡ None
    → (mapped ≤ distance) × (over_at root past i (total rule) ≡ None)
seat-admits root past i distance mapped rule node at free =
    let here : seat_refusal node.depth (account past i node.seat.rule) distance mapped rule ≡ None = rw at at free in
    let both = seated (eqb node.depth 16) (ltb distance mapped) mapped (refusal (account past i node.seat.rule) (total rule)) here in
    let far = both.0 in
    (grind (arith, nat_tests), rw at both.1)

-- ---- each query was admitted

admitted-ask : (pipeline : Content) (past : List (List ℕ)) (line : List ℕ) (grant : Grant)
    → IsAsk pipeline past line grant →
    (is_some (node_at (root_seat pipeline) (past_events pipeline past) (node_of grant.event)) ≡ true) × (over_at (root_seat pipeline) (past_events pipeline past) (node_of grant.event) (cost_of grant.event) ≡ None)
admitted-ask pipeline past line grant is =
    let a = is.asked in
    let node = place-node (node_at (root_seat pipeline) (past_events pipeline past) is.node) a.at a.place in
    rw a.grant_is (rw node.1 refl, a.within)

admitted-open : (pipeline : Content) (past : List (List ℕ)) (line : List ℕ) (grant : Grant)
    → IsOpen pipeline past line grant →
    (is_some (node_at (root_seat pipeline) (past_events pipeline past) (node_of grant.event)) ≡ true) × (over_at (root_seat pipeline) (past_events pipeline past) (node_of grant.event) (cost_of grant.event) ≡ None)
admitted-open pipeline past line grant is =
    let o = is.opened in
    let node = place-node (node_at (root_seat pipeline) (past_events pipeline past) is.node) o.at o.place in
    rw o.grant_is (rw node.1 refl, (seat-admits (root_seat pipeline) (past_events pipeline past) is.node is.distance o.mapped is.budget.rule node.0 node.1 o.seated).1)

-- the queries of any lines could be accepted one after the other
pub past-accepted : (pipeline : Content) (past : List (List ℕ))
    → Accepted (root_seat pipeline) (past_events pipeline past)
past-accepted pipeline [] = rw (no-events pipeline) tt
past-accepted pipeline (line ∷ past) = go (past-accepted pipeline past) (verdict pipeline past line) refl
  where
    go : Accepted (root_seat pipeline) (past_events pipeline past) → (v : Result Grant Refusal)
        → verdict pipeline past line ≡ v → Accepted (root_seat pipeline) (past_events pipeline (line ∷ past))
    go known (Err refused) e = rw (events-more pipeline past line (Err refused) e) known
    go known (Ok grant) e =
        let number = judge-number _ _ (length past + 1) _ grant e in
        let before = newest-le pipeline past in
        let rises : newest (past_events pipeline past) < number_of grant.event = omega (arith, number, before) in
        let admitted = elim (ask-or-open pipeline past line grant e) as (λ _. (is_some (node_at (root_seat pipeline) (past_events pipeline past) (node_of grant.event)) ≡ true) × (over_at (root_seat pipeline) (past_events pipeline past) (node_of grant.event) (cost_of grant.event) ≡ None)) [
          | inl ask ↦ admitted-ask pipeline past line grant ask
          | inr child ↦ admitted-open pipeline past line grant child
        ] in
        rw (events-more pipeline past line (Ok grant) e) (known, rises, admitted.0, admitted.1)

-- and the budget of each child that they open declares what it admits
pub past-declares : (pipeline : Content) (past : List (List ℕ)) → DeclaresAll (past_events pipeline past)
past-declares pipeline [] = rw (no-events pipeline) tt
past-declares pipeline (line ∷ past) = go (past-declares pipeline past) (verdict pipeline past line) refl
  where
    go : DeclaresAll (past_events pipeline past) → (v : Result Grant Refusal) → verdict pipeline past line ≡ v
        → DeclaresAll (past_events pipeline (line ∷ past))
    go known (Err refused) e = rw (events-more pipeline past line (Err refused) e) known
    go known (Ok grant) e =
        rw (events-more pipeline past line (Ok grant) e)
        (elim (ask-or-open pipeline past line grant e) as (λ _. DeclaresAll (grant.event ∷ past_events pipeline past)) [
          | inl ask ↦ rw ask.asked.grant_is known
          | inr child ↦ rw child.opened.grant_is (known, open-declares pipeline line child.node child.stages child.distance child.budget child.spells)
        ])
