use Rattle.std.proofs.Common.{◌≡◌, ◌∙◌, List, ℕ, map, refl}
use Rattle.std.proofs.lemmas.Result.{IfOk-weaker}
use Rattle.std.proofs.lemmas.List.Elements.{All-map, All-weaker}
use Rattle.dp_group.proofs.GroupInputs.{map-twice}
use Rattle.dp_rowwise.specs.Parts.{category_texts}
use Rattle.dp_store.specs.Selections.{IsSelection}
use Rattle.dp_domain.specs.declared.domains.Domain.TheVariants as domain
use Rattle.dp_session.specs.declared.single.Group.{Group}
use Rattle.dp_session.specs.Serving.{Suits}
use Rattle.dp_session.proofs.SingleReleases.{groups-whole, group-suits}
use Rattle.dp_session.proofs.single.groups_of.Goals as goal

pub returns-clause-values : goal.returns-clause-values
returns-clause-values c =
    let rows = c.args.store.now.records in
    let texts = category_texts c.args.texts.now in
    IfOk-weaker c.held_groups.result _ _
    (λ groups is.
    rw is (map-twice _ _ c.in_ok-chosen.chosen.items
    ∙ groups-whole rows c.in_ok-whole.whole c.args.column texts c.in_ok-chosen.chosen.items c.in_ok-whole.ensures.records
    c.in_ok-chosen.ensures.records)) c.held_groups.ensures

pub returns-clause-suit : goal.returns-clause-suit
returns-clause-suit c =
    let store = c.args.store.now in
    let has = rw c.domain-domain.ensures.domain at c.domain-domain.ensures.records in
    IfOk-weaker c.held_groups.result _ _
    (λ groups is.
    rw is (All-map (λ (group : Group). Suits store group.held (domain.Rows store.columns)) _ c.in_ok-chosen.chosen.items
    (All-weaker (IsSelection store.records) _ (λ chosen h. group-suits store chosen has h) c.in_ok-chosen.chosen.items
    c.in_ok-chosen.ensures.selections))) c.held_groups.ensures

pub returns-clause-store : goal.returns-clause-store
returns-clause-store c =
    IfOk-weaker c.held_groups.result _ _
    (λ groups is. rw is (All-map (λ (group : Group). group.store.now ≡ c.args.store.now) _ c.in_ok-chosen.chosen.items (λ k d below. refl))) c.held_groups.ensures
