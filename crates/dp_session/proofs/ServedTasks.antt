-- What is held of the node of an accepted query is a value that the query takes, and after the query the values of the nodes
-- are held again.
use Rattle.std.proofs.Common.{◌≡◌, ◌≤◌, ℕ, Bool, Option, Some, None, inl, inr, Result, Ok, Err, List, length, option_map, refl, sym, ◌∙◌, ap, subst, arith}
use Rattle.std.specs.Prelude.{IsSome}
use Rattle.dp_chain.specs.Lines.{composed}
use Rattle.dp_chain.specs.Releases.{joined}
use Rattle.dp_count.specs.Results.{on_ok}
use Rattle.dp_domain.specs.declared.domains.Domain.{Domain}
use Rattle.dp_domain.specs.declared.domains.Domain.TheVariants as domain
use Rattle.dp_domain.specs.declared.metrics.Metric.{Metric}
use Rattle.dp_domain.specs.declared.values.Value.{Value}
use Rattle.dp_domain.specs.declared.values.Value.TheVariants as value
use Rattle.dp_domain.specs.Domains.{Fits, Has}
use Rattle.dp_law.specs.declared.refusals.Refused.{Refused}
use Rattle.dp_law.specs.Mapping.{Mapping}
use Rattle.dp_law.specs.Mechanism.{Mechanism}
use Rattle.dp_num.specs.Limits.{Fraction}
use Rattle.dp_pipeline.specs.declared.content.Content.{Content}
use Rattle.dp_pipeline.specs.Accepted.{siblings_open, ratio_of}
use Rattle.dp_pipeline.specs.Places.{PlaceValue}
use Rattle.dp_store.specs.declared.held.Held.{Held}
use Rattle.dp_store.specs.Held.{held_value, IsHeld}
use Rattle.dp_store.specs.Stores.{StoreValue}
use Rattle.dp_store.specs.Taken.{IsOfColumns}
use Rattle.dp_tree.specs.declared.faults.FindFault.{FindFault}
use Rattle.dp_tree.specs.History.{Node, Event, node_of, node_at, root_node, fault_of_node}
use Rattle.dp_tree.specs.Losses.{opens}
use Rattle.dp_tree.proofs.Nodes.{made, node-le}
use Rattle.dp_session.specs.Runs.{value_at}
use Rattle.dp_session.specs.Serving.{task_input, Suits, Serves}
use Rattle.dp_session.specs.Sessions.{HoldValues, node_fault, unless_fault}
use Rattle.dp_session.specs.Values.{ValuesValue, held_of, value_of}
use Rattle.dp_session.specs.Verdicts.{Grant, granted, verdict, past_events, root_seat}
use Rattle.dp_session.proofs.Histories.{place-node, past-accepted}
use Rattle.dp_session.proofs.NodeHolds.{IsHolding, values-hold}
use Rattle.dp_session.proofs.Standing.{newest-le}
use Rattle.dp_session.proofs.Verdicts.{IsAsk, IsOpen, ask-or-open}

-- ---- what a query takes

release-takes : (ratio : Fraction) (d : Domain) (m : Metric) (r : Result (List Mechanism) Refused) (release : Mechanism) → on_ok (joined ratio d m) r ≡ Ok release
    → release.input_domain ≡ d
release-takes ratio d m (Ok parts) release e = let same : joined ratio d m parts ≡ release = cc in sym (ap (λ (x : Mechanism). x.input_domain) same)
release-takes ratio d m (Err refusal) release e = absurd cc

line-takes : (d : Domain) (m : Metric) (r : Result (List Mapping) Refused) (line : Mapping) → on_ok (composed d m) r ≡ Ok line → line.input_domain ≡ d
line-takes d m (Ok stages) line e = let same : composed d m stages ≡ line = cc in sym (ap (λ (x : Mapping). x.input_domain) same)
line-takes d m (Err refusal) line e = absurd cc

-- the place of an accepted query: the node may be asked, it is there, and the task takes values of its domain
pub record IsServed (pipeline : Content) (past : List (List ℕ)) (grant : Grant) : Type 0 where
  pub free : node_fault pipeline past (node_of grant.event) ≡ None
  pub node : Node
  pub there : node_at (root_seat pipeline) (past_events pipeline past) (node_of grant.event) ≡ Some node
  pub takes : task_input grant.task ≡ node.seat.domain

ask-served : (pipeline : Content) (past : List (List ℕ)) (line : List ℕ) (grant : Grant) → IsAsk pipeline past line grant → IsServed pipeline past grant
ask-served pipeline past line grant is =
    let a = is.asked in
    let there = place-node (node_at (root_seat pipeline) (past_events pipeline past) is.node) a.at a.place in
    let takes : a.release.input_domain ≡ a.at.domain = release-takes (ratio_of pipeline) a.at.domain a.at.metric _ a.release a.made in
    subst (IsServed pipeline past) (sym a.grant_is) (record {
      free = a.free;
      node = there.0;
      there = there.1;
      takes = takes ∙ ap (λ (p : PlaceValue). p.domain) there.2;
    })

open-served : (pipeline : Content) (past : List (List ℕ)) (line : List ℕ) (grant : Grant) → IsOpen pipeline past line grant → IsServed pipeline past grant
open-served pipeline past line grant is =
    let o = is.opened in
    let there = place-node (node_at (root_seat pipeline) (past_events pipeline past) is.node) o.at o.place in
    let takes : o.line.input_domain ≡ o.at.domain = line-takes o.at.domain o.at.metric _ o.line o.made in
    subst (IsServed pipeline past) (sym o.grant_is) (record {
      free = o.free;
      node = there.0;
      there = there.1;
      takes = takes ∙ ap (λ (p : PlaceValue). p.domain) there.2;
    })

pub granted-served : (pipeline : Content) (past : List (List ℕ)) (line : List ℕ) (grant : Grant) → verdict pipeline past line ≡ Ok grant → IsServed pipeline past grant
granted-served pipeline past line grant is = elim (ask-or-open pipeline past line grant is) [
  | inl ask ↦ ask-served pipeline past line grant ask
  | inr opens ↦ open-served pipeline past line grant opens
]

-- the value of a node that may be asked is held
pub value-held : (pipeline : Content) (rows : List (List (List ℕ))) (past : List (List ℕ)) (values : ValuesValue) (i : ℕ) → HoldValues pipeline rows past values
    → node_fault pipeline past i ≡ None → value_of rows values i ≡ Some (value_at (value.Rows rows) (granted pipeline past) i)
value-held pipeline rows past values i holds free =
    holds.each i ∙ ap (λ (f : Option FindFault). unless_fault f (value_at (value.Rows rows) (granted pipeline past) i)) free

-- and the value of the node of an accepted query
pub granted-value : (pipeline : Content) (rows : List (List (List ℕ))) (past : List (List ℕ)) (line : List ℕ) (values : ValuesValue) (grant : Grant)
    → HoldValues pipeline rows past values → verdict pipeline past line ≡ Ok grant
    → value_of rows values (node_of grant.event) ≡ Some (value_at (value.Rows rows) (granted pipeline past) (node_of grant.event))
granted-value pipeline rows past line values grant holds is =
    value-held pipeline rows past values (node_of grant.event) holds (granted-served pipeline past line grant is).free

root-holding : (pipeline : Content) (store : StoreValue) → store.columns ≡ length pipeline.columns → Fits (domain.Rows store.columns)
    → Has (domain.Rows store.columns) (value.Rows store.records) → IsHolding store.columns (root_node (root_seat pipeline)) (value.Rows store.records)
root-holding pipeline store same fits has = record {
  fits = subst (λ (n : ℕ). Fits (domain.Rows n)) same fits;
  has = subst (λ (n : ℕ). Has (domain.Rows n) (value.Rows store.records)) same has;
  of_columns = sym same;
}

suits-there : (store : StoreValue) (held : Held) (v : Value) (d e : Domain) → IsHeld store.records held → v ≡ held_value store.records held → Has d v → IsOfColumns store.columns d → e ≡ d
    → Suits store held e
suits-there store held v d e is_held is has columns same = record {
  is_held = is_held;
  has = subst (λ (x : Domain). Has x (held_value store.records held)) (sym same) (subst (λ (w : Value). Has d w) is has);
  of_columns = subst (λ (x : Domain). IsOfColumns store.columns x) (sym same) columns;
}

-- so what is held of its node is what its task takes
pub served : (pipeline : Content) (store : StoreValue) (past : List (List ℕ)) (line : List ℕ) (values : ValuesValue) (grant : Grant)
    → store.columns ≡ length pipeline.columns → Fits (domain.Rows store.columns) → Has (domain.Rows store.columns) (value.Rows store.records)
    → HoldValues pipeline store.records past values → verdict pipeline past line ≡ Ok grant → Serves store values (node_of grant.event) grant.task
served pipeline store past line values grant same fits has holds is =
    let s = granted-served pipeline past line grant is in
    let here = made (held_value store.records) (held_of values (node_of grant.event)) (value_at (value.Rows store.records) (granted pipeline past) (node_of grant.event))
    (granted-value pipeline store.records past line values grant holds is) in
    let holding = values-hold store.columns pipeline (value.Rows store.records) (root-holding pipeline store same fits has) past (node_of grant.event) s.node s.there in
    record {
      held = here.0;
      there = here.1;
      suits = suits-there store here.0 (value_at (value.Rows store.records) (granted pipeline past) (node_of grant.event)) s.node.seat.domain (task_input grant.task)
          (holds.held (node_of grant.event) here.0 here.1) here.2 holding.has holding.of_columns s.takes;
    }

-- ---- numbers

free-there : (all : Bool) (past : List Event) (i : ℕ) (o : Option Node) → fault_of_node all past i o ≡ None → (node : Node) × (o ≡ Some node)
free-there all past i None h = absurd cc
free-there all past i (Some node) h = (node, refl)

value-none : (f : Option FindFault) (o : Option Held) (g : Held → Value) (x : Value) → option_map g o ≡ unless_fault f x → IsSome o → f ≡ None
value-none None o g x e h = refl
value-none (Some fault) None g x e h = absurd cc
value-none (Some fault) (Some held) g x e h = absurd cc

-- the numbers of nodes whose values are held are at most those of the lines
pub held-before : (pipeline : Content) (rows : List (List (List ℕ))) (past : List (List ℕ)) (values : ValuesValue) → HoldValues pipeline rows past values → (i : ℕ)
    → IsSome (held_of values i) → i ≤ length past
held-before pipeline rows past values holds i h =
    let free = value-none (node_fault pipeline past i) (held_of values i) (held_value rows) (value_at (value.Rows rows) (granted pipeline past) i) (holds.each i) h in
    let there = free-there (siblings_open pipeline) (past_events pipeline past) i (node_at (root_seat pipeline) (past_events pipeline past) i) free in
    let early = node-le (root_seat pipeline) (past_events pipeline past) i there.0 (past-accepted pipeline past) there.1 in
    let lines = newest-le pipeline past in
    omega (arith, early, lines)
