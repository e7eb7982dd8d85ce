-- On records of a pipeline's columns, the value of each node is in its domain, and where it is one of records, they have
-- these columns.
use Rattle.std.proofs.Common.{◌≡◌, ℕ, ◌+◌, ◌&&◌, Bool, true, false, Option, Some, None, inl, inr, Result, Ok, Err, List, [], ◌∷◌, length, option_map, eqb, refl, sym, ◌∙◌, subst}
use Rattle.std.specs.Prelude.{nat_lt, if◌then◌else◌}
use Rattle.dp_budget.specs.Rules.{BudgetValue}
use Rattle.dp_chain.specs.declared.stage.Stage.{Stage}
use Rattle.dp_chain.specs.declared.stage.Stage.TheVariants as stage
use Rattle.dp_chain.specs.Lines.{stages_on, line_on, end_domain, composed}
use Rattle.dp_chain.specs.Stages.{stage_on}
use Rattle.dp_chain.proofs.LineLaws.{line-law}
use Rattle.dp_chain.proofs.Making.{first_and, stages-more, stages-none}
use Rattle.dp_count.specs.Results.{◌>>=◌, on_ok}
use Rattle.dp_domain.specs.declared.domains.Domain.{Domain}
use Rattle.dp_domain.specs.declared.domains.Domain.TheVariants as domain
use Rattle.dp_domain.specs.declared.metrics.Metric.{Metric}
use Rattle.dp_domain.specs.declared.metrics.Metric.TheVariants as metrics
use Rattle.dp_domain.specs.declared.values.Value.{Value}
use Rattle.dp_domain.specs.Domains.{Fits, Has}
use Rattle.dp_law.specs.declared.refusals.Refused.{Refused}
use Rattle.dp_law.specs.declared.refusals.Refused.TheVariants as refused
use Rattle.dp_law.specs.Making.{tested, is_absolute, is_symmetric, is_list_metric}
use Rattle.dp_law.specs.Mapping.{Mapping}
use Rattle.dp_rowwise.specs.Filter.{compares_rows}
use Rattle.dp_aggregate.specs.Count.{has_lists, has_unsized_lists, count_mapping}
use Rattle.dp_pipeline.specs.Places.{PlaceValue}
use Rattle.dp_pipeline.specs.declared.content.Content.{Content}
use Rattle.dp_store.specs.Taken.{IsOfColumns}
use Rattle.dp_tree.specs.History.{Node, given, child, root_node, node_at}
use Rattle.dp_tree.proofs.Rows.{chosen}
use Rattle.dp_session.specs.declared.refusal.Refusal.{Refusal}
use Rattle.dp_session.specs.Runs.{value_after, value_at}
use Rattle.dp_session.specs.Verdicts.{Grant, events, root_seat, with_verdict, granted, verdict, past_events}
use Rattle.dp_session.proofs.Histories.{place-node}
use Rattle.dp_session.proofs.Verdicts.{IsAsk, IsOpen, ask-or-open}

-- ---- columns stay

-- what is made gives records of so many columns, or no records
abbrev GivesColumns : ℕ → Result Mapping Refused → Type 0
GivesColumns columns (Ok made) = IsOfColumns columns made.output_domain
GivesColumns columns (Err refusal) = Unit {0}

tested-gives : (columns : ℕ) (right good : Bool) (made : Mapping) → IsOfColumns columns made.output_domain → GivesColumns columns (tested right good made)
tested-gives columns true true made h = h
tested-gives columns true false made h = tt
tested-gives columns false good made h = tt

count-gives : (columns : ℕ) (lists : Bool) (d : Domain) (m : Metric)
    → GivesColumns columns (if lists then tested (has_unsized_lists d && is_symmetric m) true (count_mapping d) else Err refused.Kind)
count-gives columns true d m = tested-gives columns (has_unsized_lists d && is_symmetric m) true (count_mapping d) tt
count-gives columns false d m = tt

stage-gives : (columns : ℕ) (s : Stage) (d : Domain) (m : Metric) → IsOfColumns columns d → GivesColumns columns (stage_on s d m)
unfolding stage_on
stage-gives columns (stage.Filter column text) (domain.Rows n) m h = tested-gives columns (compares_rows n m) _ _ h
stage-gives columns (stage.Filter column text) d m h = tt
stage-gives columns (stage.Select column) (domain.Rows n) m h = tested-gives columns (is_symmetric m) _ _ tt
stage-gives columns (stage.Select column) d m h = tt
stage-gives columns stage.Cast domain.Texts m h = tested-gives columns (is_symmetric m) _ _ tt
stage-gives columns stage.Cast d m h = tt
stage-gives columns (stage.Categories texts) domain.Texts m h = tested-gives columns (is_symmetric m) _ _ tt
stage-gives columns (stage.Categories texts) d m h = tt
stage-gives columns (stage.Impute number) (domain.OptInts lo hi) m h = tested-gives columns (is_symmetric m) _ _ tt
stage-gives columns (stage.Impute number) d m h = tt
stage-gives columns stage.DropNone (domain.OptInts lo hi) m h = tested-gives columns (is_symmetric m) _ _ tt
stage-gives columns stage.DropNone d m h = tt
stage-gives columns (stage.Clamp lo hi) (domain.Ints from_lo from_hi size) m h = tested-gives columns (is_list_metric size m) _ _ tt
stage-gives columns (stage.Clamp lo hi) d m h = tt
stage-gives columns (stage.Bins edges) (domain.Ints lo hi size) m h = tested-gives columns (is_list_metric size m) _ _ tt
stage-gives columns (stage.Bins edges) d m h = tt
stage-gives columns (stage.Resize size fill) (domain.Ints lo hi None) m h = tested-gives columns (is_symmetric m) _ _ tt
stage-gives columns (stage.Resize size fill) (domain.Ints lo hi (Some given)) m h = tt
stage-gives columns (stage.Resize size fill) d m h = tt
stage-gives columns stage.Count d m h = count-gives columns (has_lists d) d m
stage-gives columns stage.Sum (domain.Ints lo hi size) m h = tested-gives columns (is_list_metric size m) _ _ tt
stage-gives columns stage.Sum d m h = tt
stage-gives columns stage.Histogram (domain.Cats n size) m h = tested-gives columns (is_list_metric size m) _ _ tt
stage-gives columns stage.Histogram d m h = tt
stage-gives columns (stage.Quantise step) (domain.Int lo hi) m h = tested-gives columns (is_absolute m) _ _ tt
stage-gives columns (stage.Quantise step) d m h = tt
stage-gives columns (stage.AtLeast edges) (domain.Int lo hi) m h = tested-gives columns (is_absolute m) _ _ tt
stage-gives columns (stage.AtLeast edges) d m h = tt
stage-gives columns (stage.Truncate most) (domain.Rows n) (metrics.Users column) h = tested-gives columns (nat_lt column n) _ _ h
stage-gives columns (stage.Truncate most) (domain.Rows n) m h = tt
stage-gives columns (stage.Truncate most) d m h = tt

ends-first : (columns : ℕ) (first : Mapping) (r : Result (List Mapping) Refused) (d : Domain) (line : List Mapping)
    → ((rest : List Mapping) → r ≡ Ok rest → IsOfColumns columns (end_domain first.output_domain rest))
    → (r >>= (λ rest. Ok (first ∷ rest))) ≡ Ok line → IsOfColumns columns (end_domain d line)
unfolding end_domain
ends-first columns first (Ok rest) d line told made =
    subst (λ (l : List Mapping). IsOfColumns columns (end_domain d l)) (let same : first ∷ rest ≡ line = cc in same) (told rest refl)
ends-first columns first (Err refusal) d line told made = absurd cc

ends-after : (columns : ℕ) (ss : List Stage) (d : Domain) (line : List Mapping) (made : Result Mapping Refused) → GivesColumns columns made
    → ((first : Mapping) (rest : List Mapping) → IsOfColumns columns first.output_domain → stages_on ss first.output_domain first.output_metric ≡ Ok rest
    → IsOfColumns columns (end_domain first.output_domain rest))
    → first_and made ss ≡ Ok line → IsOfColumns columns (end_domain d line)
ends-after columns ss d line (Ok first) gives told made =
    ends-first columns first (stages_on ss first.output_domain first.output_metric) d line (λ rest is. told first rest gives is) made
ends-after columns ss d line (Err refusal) gives told made = absurd cc

stages-end : (columns : ℕ) (ss : List Stage) (d : Domain) (m : Metric) (line : List Mapping) → IsOfColumns columns d → stages_on ss d m ≡ Ok line
    → IsOfColumns columns (end_domain d line)
unfolding end_domain
stages-end columns [] d m line h made = none (sym (stages-none d m) ∙ made)
  where
    none : ◌≡◌ {A = Result (List Mapping) Refused} (Ok []) (Ok line) → IsOfColumns columns (end_domain d line)
    none e = subst (λ (l : List Mapping). IsOfColumns columns (end_domain d l)) (let same : [] ≡ line = cc in same) h
stages-end columns (s ∷ ss) d m line h made =
    ends-after columns ss d line (stage_on s d m) (stage-gives columns s d m h)
    (λ first rest gives is. stages-end columns ss first.output_domain first.output_metric rest gives is) (sym (stages-more s ss d m) ∙ made)

line-ends : (columns : ℕ) (d : Domain) (m : Metric) (r : Result (List Mapping) Refused) (line : Mapping)
    → ((stages : List Mapping) → r ≡ Ok stages → IsOfColumns columns (end_domain d stages)) → on_ok (composed d m) r ≡ Ok line
    → IsOfColumns columns line.output_domain
line-ends columns d m (Ok stages) line told made =
    let same : composed d m stages ≡ line = cc in
    subst (λ (l : Mapping). IsOfColumns columns l.output_domain) same (told stages refl)
line-ends columns d m (Err refusal) line told made = absurd cc

pub line-columns : (columns : ℕ) (stages : List Stage) (d : Domain) (m : Metric) (line : Mapping) → IsOfColumns columns d → line_on stages d m ≡ Ok line
    → IsOfColumns columns line.output_domain
line-columns columns stages d m line h made = line-ends columns d m (stages_on stages d m) line (λ ms is. stages-end columns stages d m ms h is) made

-- ---- a node's value

pub record IsHolding (columns : ℕ) (node : Node) (v : Value) : Type 0 where
  pub fits : Fits node.seat.domain
  pub has : Has node.seat.domain v
  pub of_columns : IsOfColumns columns node.seat.domain

line-holds : (columns : ℕ) (stages : List Stage) (n : ℕ) (above : Node) (line : Mapping) (distance : ℕ) (budget : BudgetValue) (v : Value)
    → IsHolding columns above v → line_on stages above.seat.domain above.seat.metric ≡ Ok line
    → IsHolding columns (child n (given line.output_domain line.output_metric distance budget) above) (line.function v)
line-holds columns stages n above line distance budget v holds made =
    let law = line-law stages above.seat.domain above.seat.metric line holds.fits made in
    let has : Has line.input_domain v = subst (λ (d : Domain). Has d v) (sym law.input_domain) holds.has in
    record {
      fits = law.stable.output_fits;
      has = law.stable.lands v has;
      of_columns = line-columns columns stages above.seat.domain above.seat.metric line holds.of_columns made;
    }

-- ---- all nodes

abbrev pub AllHold : ℕ → Content → List (List ℕ) → Value → Type 0
AllHold columns pipeline past v = (i : ℕ) (node : Node) → node_at (root_seat pipeline) (past_events pipeline past) i ≡ Some node
    → IsHolding columns node (value_at v (granted pipeline past) i)

abbrev HoldAfter : ℕ → Content → List (List ℕ) → Value → Grant → Type 0
HoldAfter columns pipeline past v grant = (i : ℕ) (node : Node) → node_at (root_seat pipeline) (grant.event ∷ past_events pipeline past) i ≡ Some node →
    IsHolding columns node (value_after grant.task grant.event (λ j. value_at v (granted pipeline past) j) i)

ask-holds : (columns : ℕ) (pipeline : Content) (past : List (List ℕ)) (line : List ℕ) (v : Value) (grant : Grant)
    → AllHold columns pipeline past v → IsAsk pipeline past line grant → HoldAfter columns pipeline past v grant
ask-holds columns pipeline past line v grant before is =
    subst (HoldAfter columns pipeline past v) (sym is.asked.grant_is) (λ i node at. before i node at)

open-holds : (columns : ℕ) (pipeline : Content) (past : List (List ℕ)) (line : List ℕ) (v : Value) (grant : Grant)
    → AllHold columns pipeline past v → IsOpen pipeline past line grant → HoldAfter columns pipeline past v grant
open-holds columns pipeline past line v grant before is =
    let o = is.opened in
    let root = root_seat pipeline in
    let es = past_events pipeline past in
    let seat = given o.line.output_domain o.line.output_metric is.distance is.budget in
    let above = place-node (node_at root es is.node) o.at o.place in
    let made_there : line_on is.stages above.0.seat.domain above.0.seat.metric ≡ Ok o.line = subst (λ (p : PlaceValue). line_on is.stages p.domain p.metric ≡ Ok o.line) above.2 o.made in
    let holds = line-holds columns is.stages is.node above.0 o.line is.distance is.budget (value_at v (granted pipeline past) is.node) (before is.node above.0 above.1) made_there in
    subst (HoldAfter columns pipeline past v) (sym o.grant_is)
    (λ i node at. elim (chosen (eqb (length past + 1) i) (option_map (child is.node seat) (node_at root es is.node)) (node_at root es i) node at) [
      | inl k ↦ let same : ◌≡◌ {A = Option Node} (Some (child is.node seat above.0)) (Some node) = subst (λ (p : Option Node). option_map (child is.node seat) p ≡ Some node) above.1 k.1 in
          let node_is : child is.node seat above.0 ≡ node = cc in
          rw k.0 (subst (λ (n : Node). IsHolding columns n (o.line.function (value_at v (granted pipeline past) is.node))) node_is holds)
      | inr k ↦ rw k.0 (before i node k.1)
    ])

none-holds : (columns : ℕ) (pipeline : Content) (v : Value) → IsHolding columns (root_node (root_seat pipeline)) v → AllHold columns pipeline [] v
unfolding granted value_at
none-holds columns pipeline v holds i node at =
    elim (chosen (eqb i 0) (Some (root_node (root_seat pipeline))) None node at) [
      | inl k ↦ let e = k.1 in let same : root_node (root_seat pipeline) ≡ node = cc in subst (λ (n : Node). IsHolding columns n v) same holds
      | inr k ↦ absurd (let e = k.1 in cc)
    ]

more-holds : (columns : ℕ) (pipeline : Content) (past : List (List ℕ)) (line : List ℕ) (v : Value) → AllHold columns pipeline past v
    → AllHold columns pipeline (line ∷ past) v
unfolding granted value_at
more-holds columns pipeline past line v before = go (verdict pipeline past line) refl
  where
    go : (r : Result Grant Refusal) → verdict pipeline past line ≡ r → (i : ℕ) (node : Node)
        → node_at (root_seat pipeline) (events (with_verdict r (granted pipeline past))) i ≡ Some node →
        IsHolding columns node (value_at v (with_verdict r (granted pipeline past)) i)
    go (Err refused) e = before
    go (Ok grant) e = elim (ask-or-open pipeline past line grant e) [
      | inl ask ↦ ask-holds columns pipeline past line v grant before ask
      | inr opens ↦ open-holds columns pipeline past line v grant before opens
    ]

-- the value of each node, after any lines
pub values-hold : (columns : ℕ) (pipeline : Content) (v : Value) → IsHolding columns (root_node (root_seat pipeline)) v
    → (past : List (List ℕ)) → AllHold columns pipeline past v
values-hold columns pipeline v holds [] = none-holds columns pipeline v holds
values-hold columns pipeline v holds (line ∷ past) = more-holds columns pipeline past line v (values-hold columns pipeline v holds past)
