-- After one line more the values of the nodes are held again.
use Rattle.std.proofs.Common.{◌≡◌, ◌+◌, ℕ, Bool, true, false, cond, Option, Some, None, inl, inr, Result, Ok, Err, List, [], ◌∷◌, length, eqb, refl, sym, ◌∙◌, ap, subst}
use Rattle.dp_domain.specs.declared.values.Value.{Value}
use Rattle.dp_domain.specs.declared.values.Value.TheVariants as value
use Rattle.dp_pipeline.specs.declared.content.Content.{Content}
use Rattle.dp_pipeline.specs.Accepted.{siblings_open}
use Rattle.dp_tree.specs.declared.faults.FindFault.{FindFault}
use Rattle.dp_tree.specs.History.{Seat, Event, Ask, Open, given, node_of, find_fault, Accepted}
use Rattle.dp_tree.specs.Losses.{AllFound}
use Rattle.dp_session.specs.declared.refusal.Refusal.{Refusal}
use Rattle.dp_session.specs.Runs.{value_at, value_after}
use Rattle.dp_session.specs.Serving.{value_then}
use Rattle.dp_session.specs.Sessions.{HoldValues, node_fault, unless_fault}
use Rattle.dp_session.specs.Values.{ValuesValue, value_of, AreHeld, staying}
use Rattle.dp_session.specs.Verdicts.{Grant, events, granted, verdict, past_events, root_seat, with_verdict}
use Rattle.dp_session.proofs.FreeNodes.{value-stays, fault-opened}
use Rattle.dp_session.proofs.Histories.{past-accepted}
use Rattle.dp_session.proofs.ServedTasks.{granted-served}
use Rattle.dp_session.proofs.Standing.{no-events, events-more}
use Rattle.dp_session.proofs.Verdicts.{IsAsk, IsOpen, ask-or-open}

-- where a query freezes the nodes below its own, each query was addressed to a node that was not frozen
pub past-found : (pipeline : Content) (past : List (List ℕ)) → siblings_open pipeline ≡ false → AllFound (root_seat pipeline) (past_events pipeline past)
past-found pipeline [] closed = rw (no-events pipeline) tt
past-found pipeline (line ∷ past) closed = go (past-found pipeline past closed) (verdict pipeline past line) refl
  where
    free : (grant : Grant) → verdict pipeline past line ≡ Ok grant → find_fault false (root_seat pipeline) (past_events pipeline past) (node_of grant.event) ≡ None
    free grant e = subst (λ (b : Bool). find_fault b (root_seat pipeline) (past_events pipeline past) (node_of grant.event) ≡ None) closed (granted-served pipeline past line grant e).free

    go : AllFound (root_seat pipeline) (past_events pipeline past) → (v : Result Grant Refusal) → verdict pipeline past line ≡ v
        → AllFound (root_seat pipeline) (past_events pipeline (line ∷ past))
    go known (Err refused) e = rw (events-more pipeline past line (Err refused) e) known
    go known (Ok grant) e = rw (events-more pipeline past line (Ok grant) e) (known, free grant e)

-- what is held of a node after an accepted query
abbrev NextIs : Content → List (List ℕ) → Value → ℕ → Grant → Type 0
NextIs pipeline past root i grant =
    unless_fault (find_fault (siblings_open pipeline) (root_seat pipeline) (grant.event ∷ past_events pipeline past) i) (value_after grant.task grant.event (λ j. value_at root (granted pipeline past) j) i)
    ≡ value_then (siblings_open pipeline) (length past + 1) (node_of grant.event) (value_at root (granted pipeline past) (node_of grant.event)) grant.task i
    (unless_fault (node_fault pipeline past i) (value_at root (granted pipeline past) i))

-- of the opened node its own value, and of another one what stays
opened-value : (all : Bool) (root : Seat) (past : List Event) (number node : ℕ) (seat : Seat) (mapped i : ℕ) (child v : Value)
    → Accepted root (Open number node seat mapped ∷ past) → (all ≡ false → AllFound root (Open number node seat mapped ∷ past)) → (b : Bool) → eqb number i ≡ b
    → unless_fault (find_fault all root (Open number node seat mapped ∷ past) i) (cond b child v)
    ≡ cond b (Some child) (staying all node i (unless_fault (find_fault all root past i) v))
opened-value all root past number node seat mapped i child v accepted found true here =
    ap (λ (f : Option FindFault). unless_fault f child) (fault-opened all root past (Open number node seat mapped) i accepted here)
opened-value all root past number node seat mapped i child v accepted found false here =
    value-stays all root past (Open number node seat mapped) i v accepted found here

ask-next : (pipeline : Content) (past : List (List ℕ)) (line : List ℕ) (root : Value) (i : ℕ) (grant : Grant) → IsAsk pipeline past line grant
    → Accepted (root_seat pipeline) (grant.event ∷ past_events pipeline past)
    → (siblings_open pipeline ≡ false → AllFound (root_seat pipeline) (grant.event ∷ past_events pipeline past)) → NextIs pipeline past root i grant
ask-next pipeline past line root i grant is =
    let a = is.asked in
    subst (λ (g : Grant). Accepted (root_seat pipeline) (g.event ∷ past_events pipeline past)
    → (siblings_open pipeline ≡ false → AllFound (root_seat pipeline) (g.event ∷ past_events pipeline past)) → NextIs pipeline past root i g) (sym a.grant_is)
    (λ accepted found. value-stays (siblings_open pipeline) (root_seat pipeline) (past_events pipeline past) (Ask (length past + 1) is.node a.cost) i (value_at root (granted pipeline past) i) accepted found refl)

open-next : (pipeline : Content) (past : List (List ℕ)) (line : List ℕ) (root : Value) (i : ℕ) (grant : Grant) → IsOpen pipeline past line grant
    → Accepted (root_seat pipeline) (grant.event ∷ past_events pipeline past)
    → (siblings_open pipeline ≡ false → AllFound (root_seat pipeline) (grant.event ∷ past_events pipeline past)) → NextIs pipeline past root i grant
open-next pipeline past line root i grant is =
    let o = is.opened in
    let seat = given o.line.output_domain o.line.output_metric is.distance is.budget in
    subst (λ (g : Grant). Accepted (root_seat pipeline) (g.event ∷ past_events pipeline past)
    → (siblings_open pipeline ≡ false → AllFound (root_seat pipeline) (g.event ∷ past_events pipeline past)) → NextIs pipeline past root i g) (sym o.grant_is)
    (λ accepted found. opened-value (siblings_open pipeline) (root_seat pipeline) (past_events pipeline past) (length past + 1) is.node seat o.mapped i
    (o.line.function (value_at root (granted pipeline past) is.node)) (value_at root (granted pipeline past) i) accepted found (eqb (length past + 1) i) refl)

accepted-more : (pipeline : Content) (past : List (List ℕ)) (line : List ℕ) (grant : Grant) → verdict pipeline past line ≡ Ok grant
    → Accepted (root_seat pipeline) (grant.event ∷ past_events pipeline past)
accepted-more pipeline past line grant e =
    subst (λ (es : List Event). Accepted (root_seat pipeline) es) (events-more pipeline past line (Ok grant) e) (past-accepted pipeline (line ∷ past))

found-more : (pipeline : Content) (past : List (List ℕ)) (line : List ℕ) (grant : Grant) → verdict pipeline past line ≡ Ok grant → siblings_open pipeline ≡ false
    → AllFound (root_seat pipeline) (grant.event ∷ past_events pipeline past)
found-more pipeline past line grant e closed =
    subst (λ (es : List Event). AllFound (root_seat pipeline) es) (events-more pipeline past line (Ok grant) e) (past-found pipeline (line ∷ past) closed)

pub next-value : (pipeline : Content) (past : List (List ℕ)) (line : List ℕ) (root : Value) (grant : Grant) → verdict pipeline past line ≡ Ok grant → (i : ℕ)
    → unless_fault (node_fault pipeline (line ∷ past) i) (value_at root (granted pipeline (line ∷ past)) i)
    ≡ value_then (siblings_open pipeline) (length past + 1) (node_of grant.event) (value_at root (granted pipeline past) (node_of grant.event)) grant.task i
    (unless_fault (node_fault pipeline past i) (value_at root (granted pipeline past) i))
unfolding granted value_at
next-value pipeline past line root grant e i =
    ap (λ (r : Result Grant Refusal). unless_fault (find_fault (siblings_open pipeline) (root_seat pipeline) (events (with_verdict r (granted pipeline past))) i)
    (value_at root (with_verdict r (granted pipeline past)) i)) e
    ∙ elim (ask-or-open pipeline past line grant e) as (λ _. NextIs pipeline past root i grant) [
      | inl ask ↦ ask-next pipeline past line root i grant ask (accepted-more pipeline past line grant e) (found-more pipeline past line grant e)
      | inr opens ↦ open-next pipeline past line root i grant opens (accepted-more pipeline past line grant e) (found-more pipeline past line grant e)
    ]

-- a refused query changes no value and no node
pub same-value : (pipeline : Content) (past : List (List ℕ)) (line : List ℕ) (root : Value) (refused : Refusal) → verdict pipeline past line ≡ Err refused → (i : ℕ)
    → unless_fault (node_fault pipeline (line ∷ past) i) (value_at root (granted pipeline (line ∷ past)) i)
    ≡ unless_fault (node_fault pipeline past i) (value_at root (granted pipeline past) i)
unfolding granted
same-value pipeline past line root refused e i =
    ap (λ (r : Result Grant Refusal). unless_fault (find_fault (siblings_open pipeline) (root_seat pipeline) (events (with_verdict r (granted pipeline past))) i)
    (value_at root (with_verdict r (granted pipeline past)) i)) e

-- so the values are held after an accepted query
pub hold-next : (pipeline : Content) (rows : List (List (List ℕ))) (past : List (List ℕ)) (line : List ℕ) (old new : ValuesValue) (grant : Grant)
    → HoldValues pipeline rows past old → verdict pipeline past line ≡ Ok grant
    → ((i : ℕ) → value_of rows new i ≡ value_then (siblings_open pipeline) (length past + 1) (node_of grant.event)
    (value_at (value.Rows rows) (granted pipeline past) (node_of grant.event)) grant.task i (value_of rows old i))
    → AreHeld rows new → HoldValues pipeline rows (line ∷ past) new
hold-next pipeline rows past line old new grant holds e each held = record {
  each = λ i. each i
      ∙ ap (λ (o : Option Value). value_then (siblings_open pipeline) (length past + 1) (node_of grant.event) (value_at (value.Rows rows) (granted pipeline past) (node_of grant.event)) grant.task i o) (holds.each i)
      ∙ sym (next-value pipeline past line (value.Rows rows) grant e i);
  held = held;
}

-- and after a refused one
pub hold-same : (pipeline : Content) (rows : List (List (List ℕ))) (past : List (List ℕ)) (line : List ℕ) (values : ValuesValue) (refused : Refusal)
    → HoldValues pipeline rows past values → verdict pipeline past line ≡ Err refused → HoldValues pipeline rows (line ∷ past) values
hold-same pipeline rows past line values refused holds e = record {
  each = λ i. holds.each i ∙ sym (same-value pipeline past line (value.Rows rows) refused e i);
  held = holds.held;
}
