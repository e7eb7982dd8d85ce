-- An accepted pipeline is private on records.
use Rattle.std.proofs.Common.{◌≡◌, ℕ, ◌+◌, ◌≤◌, ◌^◌, true, false, inl, inr, Result, Ok, Err, List, [], ◌∷◌, ◌++◌, length, reverse, refl, sym, ◌∙◌, ap, subst, arith}
use Rattle.std.specs.Prelude.{nat_le}
use Rattle.std.specs.List.{sum}
use Rattle.std.proofs.lemmas.Bool.{and_parts}
use Rattle.std.proofs.lemmas.Bool.Decides.{nat_tests}
use Rattle.std.proofs.lemmas.List.{append_assoc, append-nil, reverse-append}
use Rattle.std.proofs.lemmas.List.Sums.{sum_by-cons}
use Rattle.dp_count.specs.DrawLists.{count}
use Rattle.dp_count.specs.Ratios.{KeepsRatio}
use Rattle.dp_count.specs.Slots.{slot_ways, SlotsKeepRatios}
use Rattle.dp_count.proofs.Ratios.{ratio-same, ratio-more}
use Rattle.dp_count.proofs.Slots.{replies-ratio}
use Rattle.dp_num.specs.Limits.{Fraction, is_ratio}
use Rattle.dp_domain.specs.declared.domains.Domain.{Domain}
use Rattle.dp_domain.specs.declared.metrics.Metric.{Metric}
use Rattle.dp_domain.specs.declared.values.Value.{Value}
use Rattle.dp_domain.specs.declared.values.Value.TheVariants as value
use Rattle.dp_domain.specs.Domains.{Has}
use Rattle.dp_domain.specs.Metrics.{Within}
use Rattle.dp_law.specs.declared.pieces.Piece.{Piece}
use Rattle.dp_law.specs.Mechanism.{Mechanism, ways}
use Rattle.dp_chain.specs.Releases.{release_on, cost_of}
use Rattle.dp_chain.proofs.ReleaseLaws.{release-law}
use Rattle.dp_tree.specs.History.{node_at, root_node}
use Rattle.dp_tree.specs.Losses.{ask_cost, all_losses}
use Rattle.dp_tree.proofs.Losses.{root-losses-law}
use Rattle.dp_pipeline.specs.declared.content.Content.{Content}
use Rattle.dp_pipeline.specs.Accepted.{ratio_of, root_domain}
use Rattle.dp_pipeline.specs.Places.{PlaceValue}
use Rattle.dp_pipeline.specs.StageForms.{few_parts}
use Rattle.dp_pipeline.proofs.AcceptedContents.{accepted-content}
use Rattle.dp_pipeline.proofs.InRange.{columns_few, ratio_in}
use Rattle.dp_pipeline.proofs.Spellings.{AreFew, query-sound}
use Rattle.dp_records.proofs.RowCells.{records-few, records-AllOf}
use Rattle.dp_session.specs.declared.refusal.Refusal.{Refusal}
use Rattle.dp_session.specs.Privacy.{PrivacyLaw, NodeValuesLaw, TextValuesLaw, RecordsPrivacyLaw, text_records}
use Rattle.dp_session.specs.Runs.{Reply, Refused, Opened, Answered, same_reply, value_at, query_shape, query_reply, query_slot, query_slots, run_ways}
use Rattle.dp_session.specs.Verdicts.{Grant, granted, verdict, past_events, root_seat, units}
use Rattle.dp_session.proofs.Costs.{cost-loss}
use Rattle.dp_session.proofs.Histories.{place-node, past-accepted, past-declares}
use Rattle.dp_session.proofs.NodeValues.{AreClose, AllClose, root-close, values-close}
use Rattle.dp_session.proofs.Standing.{no-events, events-more}
use Rattle.dp_session.proofs.Verdicts.{IsAsk, IsOpen, ask-or-open}

-- ---- what queries lose

-- what a query loses: the cost of an ask
abbrev pub loss_of : Result Grant Refusal → ℕ
loss_of (Ok grant) = ask_cost grant.event
loss_of (Err refused) = 0

-- what each of some lines loses, oldest first, after others
abbrev pub losses : Content → List (List ℕ) → List (List ℕ) → List ℕ
losses pipeline past [] = []
losses pipeline past (line ∷ lines) = loss_of (verdict pipeline past line) ∷ losses pipeline (line ∷ past) lines

one-more : (pipeline : Content) (past : List (List ℕ)) (line : List ℕ)
    → all_losses (past_events pipeline (line ∷ past)) ≡ loss_of (verdict pipeline past line) + all_losses (past_events pipeline past)
one-more pipeline past line = go (verdict pipeline past line) refl
  where
    go : (r : Result Grant Refusal) → verdict pipeline past line ≡ r
        → all_losses (past_events pipeline (line ∷ past)) ≡ loss_of r + all_losses (past_events pipeline past)
    go (Err refused) e = rw (events-more pipeline past line (Err refused) e) (omega arith)
    go (Ok grant) e = rw (events-more pipeline past line (Ok grant) e) (sum_by-cons ask_cost grant.event (past_events pipeline past))

reversed : (line : List ℕ) (lines past : List (List ℕ)) → reverse (line ∷ lines) ++ past ≡ reverse lines ++ line ∷ past
reversed line lines past = ap (λ (ls : List (List ℕ)). ls ++ past) (reverse-append (line ∷ []) lines) ∙ append_assoc (reverse lines) (line ∷ []) past

losses-after : (pipeline : Content) (past lines : List (List ℕ))
    → sum (losses pipeline past lines) + all_losses (past_events pipeline past) ≡ all_losses (past_events pipeline (reverse lines ++ past))
losses-after pipeline past [] = omega arith
losses-after pipeline past (line ∷ lines) =
    let ih = losses-after pipeline (line ∷ past) lines in
    let more = one-more pipeline past line in
    let first = sum_by-cons (λ (n : ℕ). n) (loss_of (verdict pipeline past line)) (losses pipeline (line ∷ past) lines) in
    rw (reversed line lines past) (omega (arith, ih, more, first))

-- all asks of a run cost no more than its units
pub losses-within : (pipeline : Content) (lines : List (List ℕ)) → sum (losses pipeline [] lines) ≤ units pipeline lines
losses-within pipeline lines =
    let all = losses-after pipeline [] lines in
    let none : all_losses (past_events pipeline []) ≡ 0 = rw (no-events pipeline) refl in
    let whole : all_losses (past_events pipeline (reverse lines ++ [])) ≡ all_losses (past_events pipeline (reverse lines)) = ap (λ (ls : List (List ℕ)). all_losses (past_events pipeline ls)) (append-nil (reverse lines)) in
    let within = root-losses-law (root_seat pipeline) (past_events pipeline (reverse lines)) (past-accepted pipeline (reverse lines)) (past-declares pipeline (reverse lines)) in
    omega (arith, all, none, whole, within)

-- ---- one query

-- how many draw lists of a query give a reply, by the values of the nodes
abbrev verdict_ways : Result Grant Refusal → (ℕ → Value) → Reply → ℕ
verdict_ways r values reply = count (query_shape r) (λ draws. same_reply (query_reply r values draws) reply)

-- the numbers of draw lists of each reply keep the ratio
abbrev KeepsAt : Content → List (List ℕ) → Value → Value → Result Grant Refusal → Type 0
KeepsAt pipeline past v w r = (reply : Reply) → KeepsRatio pipeline.p pipeline.q (loss_of r)
    (verdict_ways r (value_at v (granted pipeline past)) reply) (verdict_ways r (value_at w (granted pipeline past)) reply)

pub few-bounds : (n : ℕ) → few_parts n ≡ true → (1 ≤ n) × (n ≤ 16)
few-bounds n h =
    let both = and_parts (nat_le 1 n) (nat_le n 16) h in (grind (arith, nat_tests, both), grind (arith, nat_tests, both))

-- of a release
release-keeps : (ratio : Fraction) (release : Mechanism) (k : ℕ) (v w : Value) → ratio.p ≤ ratio.q
    → ((answer : List Piece) → KeepsRatio ratio.p ratio.q k (ways release v answer) (ways release w answer)) →
    (reply : Reply)
    → KeepsRatio ratio.p ratio.q k (count release.shape (λ draws. same_reply (Answered (release.function v draws)) reply)) (count release.shape (λ draws. same_reply (Answered (release.function w draws)) reply))
unfolding ways
release-keeps ratio release k v w below law (Answered answer) = law answer
release-keeps ratio release k v w below law (Refused refused) = ratio-more ratio.p ratio.q 0 k _ _ below (omega arith) (ratio-same ratio.p ratio.q (count release.shape (λ draws. false)))
release-keeps ratio release k v w below law Opened = ratio-more ratio.p ratio.q 0 k _ _ below (omega arith) (ratio-same ratio.p ratio.q (count release.shape (λ draws. false)))

-- what is used of an accepted pipeline
pub record IsUsable (pipeline : Content) : Type 0 where
  pub ratio : is_ratio pipeline.p pipeline.q ≡ true
  pub few : AreFew pipeline.plans

below : (p q : ℕ) → is_ratio p q ≡ true → p ≤ q
below p q h = grind (arith, nat_tests)

ask-keeps : (pipeline : Content) (past : List (List ℕ)) (line : List ℕ) (v w : Value) (grant : Grant)
    → IsUsable pipeline → AllClose pipeline past v w → IsAsk pipeline past line grant
    → KeepsAt pipeline past v w (Ok grant)
ask-keeps pipeline past line v w grant usable close is =
    let a = is.asked in
    let ratio = ratio_of pipeline in
    let vs = value_at v (granted pipeline past) is.node in
    let ws = value_at w (granted pipeline past) is.node in
    let there = place-node (node_at (root_seat pipeline) (past_events pipeline past) is.node) a.at a.place in
    let seat = there.0.seat in
    let near = close is.node there.0 there.1 in
    let parts = few-bounds (length is.spec.parts) (query-sound pipeline line _ usable.few is.spells) in
    let made : release_on ratio is.spec.parts seat.domain seat.metric ≡ Ok a.release = subst (λ (p : PlaceValue). release_on ratio is.spec.parts p.domain p.metric ≡ Ok a.release) there.2 a.made in
    let costs : cost_of a.release seat.distance ≡ Ok a.cost = subst (λ (p : PlaceValue). cost_of a.release p.distance ≡ Ok a.cost) there.2 a.costs in
    let law = release-law ratio is.spec.parts seat.domain seat.metric a.release near.fits usable.ratio parts.0 parts.1 made in
    let loss = cost-loss (length a.release.shape) (a.release.privacy_map seat.distance) a.cost costs in
    let one : Has a.release.input_domain vs = subst (λ (d : Domain). Has d vs) (sym law.input_domain) near.one in
    let other : Has a.release.input_domain ws = subst (λ (d : Domain). Has d ws) (sym law.input_domain) near.other in
    let within : Within a.release.input_metric seat.distance vs ws = subst (λ (m : Metric). Within m seat.distance vs ws) (sym law.input_metric) near.near in
    let keeps : (answer : List Piece) → KeepsRatio pipeline.p pipeline.q a.cost (ways a.release vs answer) (ways a.release ws answer) =
    λ answer. subst (λ (f : Fraction). KeepsRatio f.p f.q a.cost (ways a.release vs answer) (ways a.release ws answer)) law.one_ratio (law.private.private seat.distance a.cost vs ws answer loss one other within) in
    subst (λ (g : Grant). KeepsAt pipeline past v w (Ok g)) (sym a.grant_is)
    (release-keeps ratio a.release a.cost vs ws (below pipeline.p pipeline.q usable.ratio) keeps)

open-keeps : (pipeline : Content) (past : List (List ℕ)) (line : List ℕ) (v w : Value) (grant : Grant)
    → IsOpen pipeline past line grant → KeepsAt pipeline past v w (Ok grant)
open-keeps pipeline past line v w grant is =
    subst (λ (g : Grant). KeepsAt pipeline past v w (Ok g)) (sym is.opened.grant_is) (λ reply. ratio-same pipeline.p pipeline.q _)

-- the numbers of draw lists of a query's replies keep the ratio at what it loses
pub query-keeps : (pipeline : Content) (past : List (List ℕ)) (line : List ℕ) (v w : Value) → IsUsable pipeline
    → AllClose pipeline past v w → (reply : Reply) →
    KeepsRatio pipeline.p pipeline.q (loss_of (verdict pipeline past line)) (slot_ways same_reply (query_slot pipeline v past line) reply) (slot_ways same_reply (query_slot pipeline w past line) reply)
query-keeps pipeline past line v w usable close = go (verdict pipeline past line) refl
  where
    go : (r : Result Grant Refusal) → verdict pipeline past line ≡ r → KeepsAt pipeline past v w r
    go (Err refused) e = λ reply. ratio-same pipeline.p pipeline.q _
    go (Ok grant) e = elim (ask-or-open pipeline past line grant e) as (λ _. KeepsAt pipeline past v w (Ok grant)) [
      | inl ask ↦ ask-keeps pipeline past line v w grant usable close ask
      | inr opens ↦ open-keeps pipeline past line v w grant opens
    ]

-- ---- runs

slots-keep : (pipeline : Content) (v w : Value) → IsUsable pipeline
    → ((past : List (List ℕ)) → AllClose pipeline past v w) → (past lines : List (List ℕ)) →
    SlotsKeepRatios same_reply pipeline.p pipeline.q (losses pipeline past lines) (query_slots pipeline v past lines) (query_slots pipeline w past lines)
unfolding SlotsKeepRatios query_slots
slots-keep pipeline v w usable close past [] = tt
slots-keep pipeline v w usable close past (line ∷ lines) =
    (query-keeps pipeline past line v w usable (close past), slots-keep pipeline v w usable close (line ∷ past) lines)

-- the numbers of draw lists of a run's replies keep the ratio at its units
pub run-keeps : (pipeline : Content) (v w : Value) → IsUsable pipeline → AreClose (root_node (root_seat pipeline)) v w
    → (lines : List (List ℕ)) (wanted : List Reply) →
    KeepsRatio pipeline.p pipeline.q (units pipeline lines) (run_ways pipeline v lines wanted) (run_ways pipeline w lines wanted)
unfolding run_ways
run-keeps pipeline v w usable close lines wanted =
    ratio-more pipeline.p pipeline.q (sum (losses pipeline [] lines)) (units pipeline lines) _ _ (below pipeline.p pipeline.q usable.ratio) (losses-within pipeline lines)
    (replies-ratio same_reply pipeline.p pipeline.q (losses pipeline [] lines) (query_slots pipeline v [] lines) (query_slots pipeline w [] lines) wanted
    (slots-keep pipeline v w usable (values-close pipeline v w close) [] lines))

pub records-privacy : RecordsPrivacyLaw
records-privacy bytes pipeline is xs ys one other near lines wanted =
    let known = accepted-content bytes pipeline is in
    let in_range = known.accepted.in_range in
    run-keeps pipeline (value.Rows xs) (value.Rows ys) (record { ratio = ratio_in pipeline in_range; few = known.few })
    (root-close pipeline xs ys (columns_few pipeline in_range) one other near) lines wanted

-- every text has records of the root's domain
pub text-has : (pipeline : Content) (text : List ℕ) → Has (root_domain pipeline) (value.Rows (text_records pipeline text))
text-has pipeline text = (records-few (2 ^ 30) (length pipeline.columns) pipeline.header text, records-AllOf (2 ^ 30) (length pipeline.columns) pipeline.header text)

pub texts-privacy : PrivacyLaw
texts-privacy bytes pipeline is x y few few_other near lines wanted =
    records-privacy bytes pipeline is (text_records pipeline x) (text_records pipeline y) (text-has pipeline x) (text-has pipeline y) near lines wanted

-- the values of each node
pub node-values : NodeValuesLaw
node-values bytes pipeline is xs ys one other near past i node at =
    let in_range = (accepted-content bytes pipeline is).accepted.in_range in
    (values-close pipeline (value.Rows xs) (value.Rows ys) (root-close pipeline xs ys (columns_few pipeline in_range) one other near) past i node at).near

pub text-values : TextValuesLaw
text-values bytes pipeline is x y near past i node at =
    node-values bytes pipeline is (text_records pipeline x) (text_records pipeline y) (text-has pipeline x) (text-has pipeline y) near past i node at
