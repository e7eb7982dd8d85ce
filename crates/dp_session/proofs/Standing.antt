-- Verdicts by a table are those of the history at which it stands, and settled queries stand at one line more.
use Rattle.std.proofs.Common.{◌≡◌, ℕ, ◌+◌, ◌≤◌, Bool, Option, Some, None, Result, Ok, Err, List, [], ◌∷◌, length, option_map, refl, sym, ◌∙◌, ap, subst, arith}
use Rattle.std.proofs.Math.Path.{fun_ext}
use Rattle.dp_count.specs.Results.{on_ok}
use Rattle.dp_num.specs.Limits.{Fraction}
use Rattle.dp_budget.specs.declared.budget.Rule.{Rule}
use Rattle.dp_tree.specs.History.{Seat, Event, Node, number_of, newest, node_at, find_fault, over_at, seat_fault}
use Rattle.dp_tree.specs.Table.{Row, TreeValue, row_of, fault_in, over_in, seat_fault_in, root_rows}
use Rattle.dp_tree.specs.Standing.{Stands}
use Rattle.dp_tree.proofs.Walks.{row-node, node-row, find-is, over-is, seat-is}
use Rattle.dp_tree.proofs.Standing.{root-stands, stands-still}
use Rattle.dp_pipeline.specs.declared.content.Content.{Content}
use Rattle.dp_pipeline.specs.declared.query.Query.{Query}
use Rattle.dp_pipeline.specs.declared.query.Query.TheVariants as query
use Rattle.dp_pipeline.specs.Accepted.{ratio_of, siblings_open}
use Rattle.dp_pipeline.specs.Places.{PlaceValue}
use Rattle.dp_pipeline.specs.Queries.{query_of}
use Rattle.dp_session.specs.declared.faults.JudgeFault.{JudgeFault}
use Rattle.dp_session.specs.declared.faults.JudgeFault.TheVariants as fault
use Rattle.dp_session.specs.declared.refusal.Refusal.{Refusal}
use Rattle.dp_session.specs.declared.work.Work as made
use Rattle.dp_session.specs.Verdicts.{Grant, Nodes, judge, events, by_history, by_table, place_of, place_of_row, root_seat, with_verdict, granted, verdict, past_events}
use Rattle.dp_session.specs.QueryLines.{Work, work_of}
use Rattle.dp_session.specs.Works.{meaning_of}
use Rattle.dp_session.proofs.Grants.{asked, opened}
use Rattle.dp_session.specs.Settling.{QueriesValue, StandAt, Settles, Extends, IfSettled}

-- ---- by the table as by the history

place-is : (root : Seat) (past : List Event) (t : TreeValue) (i : ℕ) → Stands root past t → option_map place_of_row (row_of t i) ≡ option_map (λ (node : Node). place_of node.seat) (node_at root past i)
place-is root past t i s = go (row_of t i) refl
  where
    no-node : (o : Option Node) → node_at root past i ≡ o → row_of t i ≡ None → o ≡ None
    no-node None e none = refl
    no-node (Some node) e none = absurd (let row = node-row root past t i node s e in let k = row.1 in cc)

    go : (o : Option Row) → row_of t i ≡ o → option_map place_of_row o ≡ option_map (λ (node : Node). place_of node.seat) (node_at root past i)
    go None h = rw (no-node (node_at root past i) refl h) refl
    go (Some row) h = rw (row-node root past t i row s h) refl

pub nodes-are : (root : Seat) (past : List Event) (t : TreeValue) (siblings : Bool) → Stands root past t → t.siblings_open ≡ siblings → by_table t ≡ by_history siblings root past
nodes-are root past t siblings s e =
    let finds : fault_in t ≡ find_fault siblings root past
    = fun_ext (λ i. find-is root past t i s ∙ ap (λ b. find_fault b root past i) e) in
    let places : (λ (i : ℕ). option_map place_of_row (row_of t i)) ≡ (λ (i : ℕ). option_map (λ (node : Node). place_of node.seat) (node_at root past i))
    = fun_ext (λ i. place-is root past t i s) in
    let overs : over_in t ≡ over_at root past = fun_ext (λ i. fun_ext (λ cost. over-is root past t i cost s)) in
    let seats : seat_fault_in t ≡ seat_fault root past
    = fun_ext (λ i. fun_ext (λ d. fun_ext (λ m. fun_ext (λ rule. seat-is root past t i d m rule s)))) in
    same finds places overs seats
  where
    same : {f g : ℕ → _} {p q : ℕ → Option PlaceValue} {o v : ℕ → ℕ → _} {u w : ℕ → ℕ → ℕ → Rule → _} → f ≡ g → p ≡ q → o ≡ v → u ≡ w → ◌≡◌ {A = Nodes} (record { fault = f; place = p; over = o; unseated = u }) (record { fault = g; place = q; over = v; unseated = w })
    same a b c d = cc

pub verdict-is : (q : QueriesValue) (past : List (List ℕ)) (line : List ℕ) → StandAt q past → judge (ratio_of q.pipeline) (by_table q.tree) (q.answered + 1) (query_of q.pipeline line) ≡ verdict q.pipeline past line
verdict-is q past line s =
    ap (λ nodes. judge (ratio_of q.pipeline) nodes (q.answered + 1) (query_of q.pipeline line))
    (nodes-are (root_seat q.pipeline) (past_events q.pipeline past) q.tree (siblings_open q.pipeline) s.tree s.siblings)
    ∙ ap (λ n. judge (ratio_of q.pipeline) (by_history (siblings_open q.pipeline) (root_seat q.pipeline) (past_events q.pipeline past)) (n + 1) (query_of q.pipeline line)) s.counted

-- ---- numbers

pub judge-number : (ratio : Fraction) (nodes : Nodes) (number : ℕ) (q : Option Query) (grant : Grant) → judge ratio nodes number q ≡ Ok grant → number_of grant.event ≡ number
judge-number ratio nodes number None grant h = absurd cc
judge-number ratio nodes number (Some (query.Ask node spec)) grant h = ap (λ (g : Grant). number_of g.event) (asked ratio nodes number node spec.parts grant h).grant_is
judge-number ratio nodes number (Some (query.Open node stages distance budget)) grant h = ap (λ (g : Grant). number_of g.event) (opened nodes number node stages distance budget grant h).grant_is

-- the number of the newest accepted query is at most that of the newest line
pub newest-le : (pipeline : Content) (past : List (List ℕ)) → newest (past_events pipeline past) ≤ length past
unfolding granted
newest-le pipeline [] = omega arith
newest-le pipeline (line ∷ past) = let h = go (verdict pipeline past line) refl (newest-le pipeline past) in omega (arith, h)
  where
    go : (v : Result Grant Refusal) → verdict pipeline past line ≡ v → newest (past_events pipeline past) ≤ length past → newest (events (with_verdict v (granted pipeline past))) ≤ length past + 1
    go (Ok grant) e ih = let n = judge-number _ _ (length past + 1) _ grant e in omega (arith, n)
    go (Err refused) e ih = omega (arith, ih)

-- ---- one line more

pub no-events : (pipeline : Content) → past_events pipeline [] ≡ []
unfolding granted
no-events pipeline = refl

pub events-more : (pipeline : Content) (past : List (List ℕ)) (line : List ℕ) (v : Result Grant Refusal) → verdict pipeline past line ≡ v → past_events pipeline (line ∷ past) ≡ events (with_verdict v (granted pipeline past))
unfolding granted
events-more pipeline past line v e = ap (λ r. events (with_verdict r (granted pipeline past))) e

some-grant : (v : Result Grant Refusal) (work : Work) → on_ok work_of v ≡ Ok work → (grant : Grant) × (v ≡ Ok grant)
some-grant (Ok grant) work h = (grant, refl)
some-grant (Err refused) work h = absurd cc

the-refusal : (v : Result Grant Refusal) (refused : Refusal) → on_ok work_of v ≡ Err refused → v ≡ Err refused
the-refusal (Ok grant) refused h = absurd cc
the-refusal (Err reason) refused h = cc

pub settled-stands : (q new : QueriesValue) (past : List (List ℕ)) (line : List ℕ) (result : Result made.Work JudgeFault) → StandAt q past → new.pipeline ≡ q.pipeline → new.answered ≡ q.answered + 1 → new.tree.siblings_open ≡ q.tree.siblings_open → Settles result (verdict q.pipeline past line) → Extends result (verdict q.pipeline past line) q.tree new.tree → IfSettled result (StandAt new (line ∷ past))
settled-stands q new past line (Ok work) s p a o settles extends =
    let grant = some-grant (verdict q.pipeline past line) (meaning_of work) settles in
    let number = judge-number _ _ (length past + 1) _ grant.0 grant.1 in
    let before = newest-le q.pipeline past in
    let stands = extends grant.0 grant.1 (root_seat q.pipeline) (past_events q.pipeline past) s.tree (omega (arith, number, before)) in
    let counted = s.counted in
    record {
      counted = omega (arith, counted, a);
      siblings = o ∙ s.siblings ∙ ap siblings_open (sym p);
      tree = subst (λ (c : Content). Stands (root_seat c) (past_events c (line ∷ past)) new.tree) (sym p)
          (subst (λ (es : List Event). Stands (root_seat q.pipeline) es new.tree) (sym (events-more q.pipeline past line (Ok grant.0) grant.1)) stands);
    }
settled-stands q new past line (Err (fault.Refused refused)) s p a o settles extends =
    let is = the-refusal (verdict q.pipeline past line) refused settles in
    let stands = stands-still q.tree new.tree extends (root_seat q.pipeline) (past_events q.pipeline past) s.tree in
    let counted = s.counted in
    record {
      counted = omega (arith, counted, a);
      siblings = o ∙ s.siblings ∙ ap siblings_open (sym p);
      tree = subst (λ (c : Content). Stands (root_seat c) (past_events c (line ∷ past)) new.tree) (sym p)
          (subst (λ (es : List Event). Stands (root_seat q.pipeline) es new.tree) (sym (events-more q.pipeline past line (Err refused) is)) stands);
    }
settled-stands q new past line (Err fault.NoMemory) s p a o settles extends = tt

-- no queries yet
pub new-stands : (q : QueriesValue) → q.answered ≡ 0 → q.tree.siblings_open ≡ siblings_open q.pipeline → q.tree.rows ≡ root_rows (root_seat q.pipeline) → StandAt q []
new-stands q a o rows = record {
  counted = a;
  siblings = o;
  tree = subst (λ (es : List Event). Stands (root_seat q.pipeline) es q.tree) (sym (no-events q.pipeline)) (root-stands (root_seat q.pipeline) q.tree rows);
}
