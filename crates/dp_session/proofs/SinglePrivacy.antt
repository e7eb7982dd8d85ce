-- One release of an accepted pipeline is private.
use Rattle.std.proofs.Common.{◌≡◌, ℕ, ◌≤◌, ◌<◌, ◌^◌, ◌*◌, ◌&&◌, Bool, true, false, cond, inl, inr, Option, Some, None, Result, Ok, Err, List, length, refl, sym, ◌∙◌, subst, ap, arith}
use Rattle.std.specs.Prelude.{nat_lt, ◌⊎◌}
use Rattle.std.proofs.lemmas.Bool.{and_parts}
use Rattle.std.proofs.lemmas.Bool.Decides.{nat_tests}
use Rattle.dp_budget.specs.declared.over.Over.{Over}
use Rattle.dp_budget.specs.Rules as rules
use Rattle.dp_count.specs.Ratios.{KeepsRatio}
use Rattle.dp_count.specs.Results.{◌>>=◌, on_ok}
use Rattle.dp_num.specs.Limits.{Fraction}
use Rattle.dp_domain.specs.declared.domains.Domain.{Domain}
use Rattle.dp_domain.specs.declared.domains.Domain.TheVariants as domain
use Rattle.dp_domain.specs.declared.metrics.Metric.{Metric}
use Rattle.dp_domain.specs.declared.metrics.Metric.TheVariants as metrics
use Rattle.dp_domain.specs.declared.values.Value.{Value}
use Rattle.dp_domain.specs.declared.values.Value.TheVariants as value
use Rattle.dp_domain.specs.Domains.{Has}
use Rattle.dp_domain.specs.Metrics.{Within}
use Rattle.dp_law.specs.declared.pieces.Piece.{Piece}
use Rattle.dp_law.specs.declared.refusals.Refused.{Refused}
use Rattle.dp_law.specs.declared.refusals.Refused.TheVariants as refused
use Rattle.dp_law.specs.Making.{tested, is_symmetric}
use Rattle.dp_law.specs.Mechanism.{Mechanism, IsPrivate, ways}
use Rattle.dp_chain.specs.Laws.{IsPrivateOn}
use Rattle.dp_chain.specs.Releases.{release_on, cost_of}
use Rattle.dp_chain.proofs.SmallReleases.{release-pieces}
use Rattle.dp_rowwise.specs.Columns.{HasColumn}
use Rattle.dp_group.specs.Grouped.{grouped, grouped_from, grouped_on, are_group_texts}
use Rattle.dp_group.specs.GroupedProof.{grouped_law}
use Rattle.dp_post.specs.declared.post.Post.{Post}
use Rattle.dp_post.specs.Posted.{changed_by}
use Rattle.dp_post.specs.Posts.{posted}
use Rattle.dp_post.specs.PostedProof.{posted_law}
use Rattle.dp_pipeline.specs.declared.content.Content.{Content}
use Rattle.dp_pipeline.specs.Accepted.{part_refused, cost_refused, ratio_of, root_domain, root_metric}
use Rattle.dp_pipeline.specs.Queries.{plan_named}
use Rattle.dp_pipeline.specs.StageForms.{SpecValue, place_of}
use Rattle.dp_pipeline.proofs.AcceptedContents.{IsTextOf, accepted-content, after}
use Rattle.dp_pipeline.proofs.InRange.{columns_few}
use Rattle.dp_pipeline.proofs.Spellings.{plan-few}
use Rattle.dp_session.specs.declared.refusal.Refusal.{Refusal}
use Rattle.dp_session.specs.declared.refusal.Refusal.TheVariants as refusal
use Rattle.dp_session.specs.Privacy.{text_records, texts_apart}
use Rattle.dp_session.specs.SinglePrivacy.{IsPrivateSingle, PostPrivacyLaw, GroupPrivacyLaw, IsBudget, PlanRefusalLaw}
use Rattle.dp_session.specs.Singles.{Single, named_or, plan_release, admitted_on, plan_verdict, changed_after, group_verdict}
use Rattle.dp_session.specs.Verdicts.{made_or, unless}
use Rattle.dp_session.proofs.Costs.{cost-loss}
use Rattle.dp_session.proofs.NodeValues.{root-close}
use Rattle.dp_session.proofs.Privacy.{few-bounds, text-has}
use Rattle.dp_session.proofs.SinglePlans.{IsOfPlan, of-plan, named-ok, made-ok, made-there, made-draws, plan-cost, plan-law}

-- ---- one measurement

-- an admitted measurement is the one that was judged, at its cost at the pipeline's distance
pub record IsAdmitted (pipeline : Content) (m : Mechanism) (single : Single) : Type 0 where
  pub measurement_is : single.measurement ≡ m
  pub costs : cost_of m pipeline.distance ≡ Ok single.cost

admitted-of : (pipeline : Content) (m : Mechanism) (single : Single) → admitted_on pipeline m ≡ Ok single
    → IsAdmitted pipeline m single
unfolding admitted_on
admitted-of pipeline m single is =
    let first = after (made_or cost_refused (cost_of m pipeline.distance)) _ single is in
    let second = after (unless refusal.Budget (rules.refusal (rules.fresh pipeline.root) first.0)) _ single first.2 in
    let made : record { measurement = m; cost = first.0 } ≡ single = cc (second.2) in
    record {
      measurement_is = sym (ap (λ (s : Single). s.measurement) made);
      costs = made-ok cost_refused (cost_of m pipeline.distance) first.0 first.1 ∙ ap (λ (s : Single). Ok s.cost) made;
    }

-- a private measurement of a pipeline's records keeps its ratio at its cost
keeps : (pipeline : Content) (m : Mechanism) (cost : ℕ) → IsTextOf pipeline → IsPrivate m
    → m.input_domain ≡ root_domain pipeline → m.input_metric ≡ root_metric pipeline → m.ratio ≡ ratio_of pipeline
    → cost_of m pipeline.distance ≡ Ok cost
    → IsPrivateSingle pipeline (record { measurement = m; cost = cost })
keeps pipeline m cost known law on_domain on_metric on_ratio costs x y few few_other near answer =
    let xs = value.Rows (text_records pipeline x) in
    let ys = value.Rows (text_records pipeline y) in
    let close = root-close pipeline (text_records pipeline x) (text_records pipeline y)
    (columns_few pipeline known.accepted.in_range) (text-has pipeline x) (text-has pipeline y) near in
    let one : Has m.input_domain xs = subst (λ (d : Domain). Has d xs) (sym on_domain) close.one in
    let other : Has m.input_domain ys = subst (λ (d : Domain). Has d ys) (sym on_domain) close.other in
    let within : Within m.input_metric pipeline.distance xs ys
    = subst (λ (k : Metric). Within k pipeline.distance xs ys) (sym on_metric) close.near in
    let loss = cost-loss (length m.shape) (m.privacy_map pipeline.distance) cost costs in
    subst (λ (f : Fraction). KeepsRatio f.p f.q cost (ways m xs answer) (ways m ys answer)) on_ratio
    (law.private pipeline.distance cost xs ys answer loss one other within)

-- of an admitted one
admitted-keeps : (pipeline : Content) (m : Mechanism) (single : Single) → IsTextOf pipeline → IsPrivate m
    → m.input_domain ≡ root_domain pipeline → m.input_metric ≡ root_metric pipeline → m.ratio ≡ ratio_of pipeline
    → IsAdmitted pipeline m single → IsPrivateSingle pipeline single
admitted-keeps pipeline m single known law on_domain on_metric on_ratio is =
    subst (λ (n : Mechanism). IsPrivateSingle pipeline (record { measurement = n; cost = single.cost })) (sym is.measurement_is)
    (keeps pipeline m single.cost known law on_domain on_metric on_ratio is.costs)

-- ---- changes after a release

posted-keeps : (pipeline : Content) (plan : List ℕ) (posts : List Post) (r : Result Single Refusal) (single : Single)
    → IsTextOf pipeline → plan_verdict pipeline plan ≡ r → on_ok (changed_after posts) r ≡ Ok single
    → IsPrivateSingle pipeline single
unfolding plan_verdict
posted-keeps pipeline plan posts (Err refused) single known is e = absurd cc
posted-keeps pipeline plan posts (Ok before) single known is e =
    let first = after (plan_release pipeline plan) (admitted_on pipeline) before is in
    let m = first.0 in
    let law = plan-law pipeline plan m known (of-plan pipeline plan m first.1) in
    let admitted = admitted-of pipeline m before first.2 in
    let after_it : changed_after posts before ≡ single = cc in
    let changed : IsPrivateSingle pipeline (record { measurement = changed_by (posted posts) m; cost = before.cost })
    = keeps pipeline (changed_by (posted posts) m) before.cost known (posted_law posts m law.private) law.input_domain law.input_metric
    law.one_ratio admitted.costs in
    subst (IsPrivateSingle pipeline) after_it
    (subst (λ (n : Mechanism). IsPrivateSingle pipeline (record { measurement = changed_by (posted posts) n; cost = before.cost }))
    (sym admitted.measurement_is) changed)

pub post-privacy : PostPrivacyLaw
post-privacy bytes pipeline is plan posts single verdict =
    posted-keeps pipeline plan posts (plan_verdict pipeline plan) single (accepted-content bytes pipeline is) refl verdict

-- ---- groups

symmetric : (metric : Metric) → is_symmetric metric ≡ true → metric ≡ metrics.Symmetric
symmetric metrics.Symmetric h = refl
symmetric metrics.ChangeOne h = absurd cc
symmetric metrics.Absolute h = absurd cc
symmetric metrics.Discrete h = absurd cc
symmetric metrics.L1 h = absurd cc
symmetric (metrics.Users column) h = absurd cc

-- groups that are made: both tests hold, and they are the groups
tested-ok : {M : Type 0} (one other : Bool) (meaning made : M) → tested one other meaning ≡ Ok made
    → (one ≡ true) × (other ≡ true) × (meaning ≡ made)
tested-ok true true meaning made h = (refl, refl, cc)
tested-ok true false meaning made h = absurd cc
tested-ok false other meaning made h = absurd cc

pub record AreGroups (n column : ℕ) (texts : List (List ℕ)) (m groups : Mechanism) : Type 0 where
  pub symmetric : m.input_metric ≡ metrics.Symmetric
  pub within : column < n
  pub are_texts : are_group_texts texts ≡ true
  pub groups_are : groups ≡ grouped column texts m

groups-of : (n column : ℕ) (texts : List (List ℕ)) (m groups : Mechanism) → m.input_domain ≡ domain.Rows n
    → grouped_on column texts m ≡ Ok groups → AreGroups n column texts m groups
groups-of n column texts m groups on is =
    let made = subst (λ (d : Domain). grouped_from column texts m d m.input_metric ≡ Ok groups) on is in
    let tests = tested-ok (is_symmetric m.input_metric) (nat_lt column n && are_group_texts texts) (grouped column texts m) groups made in
    let both = and_parts (nat_lt column n) (are_group_texts texts) tests.1 in
    let first = both.0 in
    record {
      symmetric = symmetric m.input_metric tests.0;
      within = grind (arith, nat_tests, first);
      are_texts = both.1;
      groups_are = sym tests.2;
    }

grouped-keeps : (pipeline : Content) (plan : List ℕ) (column : ℕ) (texts : List (List ℕ)) (m groups : Mechanism) (single : Single)
    → IsTextOf pipeline → IsOfPlan pipeline plan m → grouped_on column texts m ≡ Ok groups
    → IsAdmitted pipeline groups single → IsPrivateSingle pipeline single
grouped-keeps pipeline plan column texts m groups single known of made admitted =
    let law = plan-law pipeline plan m known of in
    let are = groups-of (length pipeline.columns) column texts m groups law.input_domain made in
    let cost = plan-cost pipeline plan of.spec known of.there in
    let draws = made-draws pipeline of.spec m cost of.made in
    let pieces = release-pieces (ratio_of pipeline) of.spec.parts (root_domain pipeline) (root_metric pipeline) m of.made in
    let few = few-bounds (length of.spec.parts) (plan-few pipeline.plans plan of.spec known.few of.there) in
    let takes = subst (λ (d : Domain). HasColumn d column) (sym law.input_domain) are.within in
    let private = grouped_law column texts m
    (record { private = law.private; symmetric = are.symmetric; nothing_at_0 = law.zero_loss })
    takes draws (omega (arith, pieces, few.1)) are.are_texts in
    let whole : IsAdmitted pipeline (grouped column texts m) single = subst (λ (g : Mechanism). IsAdmitted pipeline g single) are.groups_are admitted in
    admitted-keeps pipeline (grouped column texts m) single known private law.input_domain law.input_metric law.one_ratio whole

pub group-privacy : GroupPrivacyLaw
unfolding group_verdict
group-privacy bytes pipeline is plan column texts single verdict =
    let known = accepted-content bytes pipeline is in
    let place = after (named_or (place_of pipeline.columns column)) _ single verdict in
    let release = after (plan_release pipeline plan) _ single place.2 in
    let groups = after (made_or part_refused (grouped_on place.0 texts release.0)) (admitted_on pipeline) single release.2 in
    grouped-keeps pipeline plan place.0 texts release.0 groups.0 single known (of-plan pipeline plan release.0 release.1)
    (made-ok part_refused (grouped_on place.0 texts release.0) groups.0 groups.1) (admitted-of pipeline groups.0 single groups.2)

-- ---- refusals

-- a cost that is over the budget is refused, and no other
over-refused : (over : Option Over) (single : Single) (reason : Refusal)
    → (unless refusal.Budget over >>= (λ admitted. Ok single)) ≡ Err reason → IsBudget reason
over-refused None single reason h = absurd cc
over-refused (Some over) single reason h =
    let same : refusal.Budget over ≡ reason = cc in subst IsBudget same tt

-- a measurement that has a cost is refused for the budget alone
admitted-refused : (pipeline : Content) (m : Mechanism) (cost : ℕ) (reason : Refusal) → cost_of m pipeline.distance ≡ Ok cost
    → admitted_on pipeline m ≡ Err reason → IsBudget reason
unfolding admitted_on
admitted-refused pipeline m cost reason costs is =
    over-refused (rules.refusal (rules.fresh pipeline.root) cost) (record { measurement = m; cost = cost }) reason (rw costs at is)

plan-refused : (pipeline : Content) (plan : List ℕ) (reason : Refusal) (named : Option SpecValue) → IsTextOf pipeline
    → plan_named pipeline.plans plan ≡ named → plan_verdict pipeline plan ≡ Err reason
    → ((plan_named pipeline.plans plan ≡ None) × (reason ≡ refusal.Malformed)) ⊎ IsBudget reason
unfolding plan_verdict plan_release
plan-refused pipeline plan reason None known there is =
    let malformed : reason ≡ refusal.Malformed = sym (cc (there, is)) in inl (there, malformed)
plan-refused pipeline plan reason (Some spec) known there is =
    let at = made-there pipeline spec (plan-cost pipeline plan spec known there) in
    inr (admitted-refused pipeline at.measurement at.cost reason at.costs (rw (there, at.made) at is))

pub plan-refusal : PlanRefusalLaw
plan-refusal bytes pipeline is plan reason verdict =
    plan-refused pipeline plan reason (plan_named pipeline.plans plan) (accepted-content bytes pipeline is) refl verdict
