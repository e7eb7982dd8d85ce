-- On data within a pipeline's distance, the two values of each node are within the node's distance.
use Rattle.std.proofs.Common.{◌≡◌, ℕ, ◌+◌, ◌≤◌, Option, Some, None, inl, inr, Result, Ok, Err, List, [], ◌∷◌, length, option_map, eqb, refl, sym, subst}
use Rattle.dp_budget.specs.Rules.{BudgetValue}
use Rattle.dp_chain.specs.declared.stage.Stage.{Stage}
use Rattle.dp_chain.specs.Lines.{line_on}
use Rattle.dp_chain.proofs.LineLaws.{line-law}
use Rattle.dp_domain.specs.declared.domains.Domain.{Domain}
use Rattle.dp_domain.specs.declared.metrics.Metric.{Metric}
use Rattle.dp_domain.specs.declared.values.Value.{Value}
use Rattle.dp_domain.specs.declared.values.Value.TheVariants as value
use Rattle.dp_domain.specs.Domains.{Fits, Has}
use Rattle.dp_domain.specs.Metrics.{Within}
use Rattle.dp_domain.specs.Users.{distance, user_metric}
use Rattle.dp_domain.proofs.Growth.{within-wider}
use Rattle.dp_law.specs.Mapping.{Mapping}
use Rattle.dp_pipeline.specs.Places.{PlaceValue}
use Rattle.dp_pipeline.specs.declared.content.Content.{Content}
use Rattle.dp_pipeline.specs.Accepted.{root_domain}
use Rattle.dp_tree.specs.History.{Node, given, child, root_node, node_at}
use Rattle.dp_tree.proofs.Nodes.{made}
use Rattle.dp_tree.proofs.Rows.{chosen}
use Rattle.dp_session.specs.declared.refusal.Refusal.{Refusal}
use Rattle.dp_session.specs.Runs.{value_after, value_at}
use Rattle.dp_session.specs.Verdicts.{Grant, events, root_seat, with_verdict, granted, verdict, past_events}
use Rattle.dp_session.proofs.Histories.{place-node, seat-admits}
use Rattle.dp_session.proofs.Verdicts.{IsAsk, IsOpen, ask-or-open}

-- both values are of the node's domain, and they are within its distance
pub record AreClose (node : Node) (v w : Value) : Type 0 where
  pub fits : Fits node.seat.domain
  pub one : Has node.seat.domain v
  pub other : Has node.seat.domain w
  pub near : Within node.seat.metric node.seat.distance v w

-- ---- the root

user-near : (user : Option ℕ) (xs ys : List (List (List ℕ))) (d : ℕ) → distance user xs ys ≤ d
    → Within (user_metric user) d (value.Rows xs) (value.Rows ys)
user-near None xs ys d h = h
user-near (Some column) xs ys d h = h

pub root-close : (pipeline : Content) (xs ys : List (List (List ℕ)))
    → (1 ≤ length pipeline.columns) × (length pipeline.columns ≤ 64) → Has (root_domain pipeline) (value.Rows xs)
    → Has (root_domain pipeline) (value.Rows ys) →
    distance pipeline.user xs ys ≤ pipeline.distance
    → AreClose (root_node (root_seat pipeline)) (value.Rows xs) (value.Rows ys)
root-close pipeline xs ys few one other near = record {
  fits = few;
  one = one;
  other = other;
  near = user-near pipeline.user xs ys pipeline.distance near;
}

-- ---- a child

line-close : (stages : List Stage) (n : ℕ) (above : Node) (line : Mapping) (mapped distance : ℕ) (budget : BudgetValue) (v w : Value)
    → AreClose above v w → line_on stages above.seat.domain above.seat.metric ≡ Ok line →
    line.stability_map above.seat.distance ≡ Some mapped → mapped ≤ distance
    → AreClose (child n (given line.output_domain line.output_metric distance budget) above) (line.function v) (line.function w)
line-close stages n above line mapped distance budget v w close made maps enough =
    let law = line-law stages above.seat.domain above.seat.metric line close.fits made in
    let one : Has line.input_domain v = subst (λ (d : Domain). Has d v) (sym law.input_domain) close.one in
    let other : Has line.input_domain w = subst (λ (d : Domain). Has d w) (sym law.input_domain) close.other in
    let near : Within line.input_metric above.seat.distance v w = subst (λ (m : Metric). Within m above.seat.distance v w) (sym law.input_metric) close.near in
    record {
      fits = law.stable.output_fits;
      one = law.stable.lands v one;
      other = law.stable.lands w other;
      near = within-wider line.output_metric mapped distance (line.function v) (line.function w) (law.stable.stable above.seat.distance mapped v w maps one other near) enough;
    }

-- ---- one query more

-- the two values of each node are close
abbrev pub AllClose : Content → List (List ℕ) → Value → Value → Type 0
AllClose pipeline past v w = (i : ℕ) (node : Node) → node_at (root_seat pipeline) (past_events pipeline past) i ≡ Some node → AreClose node (value_at v (granted pipeline past) i) (value_at w (granted pipeline past) i)

-- and after an accepted query
abbrev CloseAfter : Content → List (List ℕ) → Value → Value → Grant → Type 0
CloseAfter pipeline past v w grant = (i : ℕ) (node : Node) → node_at (root_seat pipeline) (grant.event ∷ past_events pipeline past) i ≡ Some node →
    AreClose node (value_after grant.task grant.event (λ j. value_at v (granted pipeline past) j) i) (value_after grant.task grant.event (λ j. value_at w (granted pipeline past) j) i)

ask-close : (pipeline : Content) (past : List (List ℕ)) (line : List ℕ) (v w : Value) (grant : Grant)
    → AllClose pipeline past v w → IsAsk pipeline past line grant → CloseAfter pipeline past v w grant
ask-close pipeline past line v w grant before is =
    subst (CloseAfter pipeline past v w) (sym is.asked.grant_is) (λ i node at. before i node at)

open-close : (pipeline : Content) (past : List (List ℕ)) (line : List ℕ) (v w : Value) (grant : Grant)
    → AllClose pipeline past v w → IsOpen pipeline past line grant → CloseAfter pipeline past v w grant
open-close pipeline past line v w grant before is =
    let o = is.opened in
    let root = root_seat pipeline in
    let es = past_events pipeline past in
    let seat = given o.line.output_domain o.line.output_metric is.distance is.budget in
    let above = place-node (node_at root es is.node) o.at o.place in
    let enough = (seat-admits root es is.node is.distance o.mapped is.budget.rule above.0 above.1 o.seated).0 in
    let made_there : line_on is.stages above.0.seat.domain above.0.seat.metric ≡ Ok o.line = subst (λ (p : PlaceValue). line_on is.stages p.domain p.metric ≡ Ok o.line) above.2 o.made in
    let maps_there : o.line.stability_map above.0.seat.distance ≡ Some o.mapped = subst (λ (p : PlaceValue). o.line.stability_map p.distance ≡ Some o.mapped) above.2 o.maps in
    let close = line-close is.stages is.node above.0 o.line o.mapped is.distance is.budget (value_at v (granted pipeline past) is.node) (value_at w (granted pipeline past) is.node) (before is.node above.0 above.1) made_there maps_there enough in
    subst (CloseAfter pipeline past v w) (sym o.grant_is)
    (λ i node at. elim (chosen (eqb (length past + 1) i) (option_map (child is.node seat) (node_at root es is.node)) (node_at root es i) node at) [
      | inl k ↦ let same : ◌≡◌ {A = Option Node} (Some (child is.node seat above.0)) (Some node) = subst (λ (p : Option Node). option_map (child is.node seat) p ≡ Some node) above.1 k.1 in
          let node_is : child is.node seat above.0 ≡ node = cc in
          rw k.0 (subst (λ (n : Node). AreClose n (o.line.function (value_at v (granted pipeline past) is.node)) (o.line.function (value_at w (granted pipeline past) is.node))) node_is close)
      | inr k ↦ rw k.0 (before i node k.1)
    ])

none-close : (pipeline : Content) (v w : Value) → AreClose (root_node (root_seat pipeline)) v w
    → AllClose pipeline [] v w
unfolding granted value_at
none-close pipeline v w close i node at =
    elim (chosen (eqb i 0) (Some (root_node (root_seat pipeline))) None node at) [
      | inl k ↦ let e = k.1 in let same : root_node (root_seat pipeline) ≡ node = cc in subst (λ (n : Node). AreClose n v w) same close
      | inr k ↦ absurd (let e = k.1 in cc)
    ]

more-close : (pipeline : Content) (past : List (List ℕ)) (line : List ℕ) (v w : Value) → AllClose pipeline past v w
    → AllClose pipeline (line ∷ past) v w
unfolding granted value_at
more-close pipeline past line v w before = go (verdict pipeline past line) refl
  where
    go : (r : Result Grant Refusal) → verdict pipeline past line ≡ r → (i : ℕ) (node : Node)
        → node_at (root_seat pipeline) (events (with_verdict r (granted pipeline past))) i ≡ Some node →
        AreClose node (value_at v (with_verdict r (granted pipeline past)) i) (value_at w (with_verdict r (granted pipeline past)) i)
    go (Err refused) e = before
    go (Ok grant) e = elim (ask-or-open pipeline past line grant e) [
      | inl ask ↦ ask-close pipeline past line v w grant before ask
      | inr opens ↦ open-close pipeline past line v w grant before opens
    ]

-- the two values of each node, after any lines
pub values-close : (pipeline : Content) (v w : Value) → AreClose (root_node (root_seat pipeline)) v w
    → (past : List (List ℕ)) → AllClose pipeline past v w
values-close pipeline v w close [] = none-close pipeline v w close
values-close pipeline v w close (line ∷ past) = more-close pipeline past line v w (values-close pipeline v w close past)
