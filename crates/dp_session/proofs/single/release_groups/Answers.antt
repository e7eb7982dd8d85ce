use Rattle.std.proofs.Common.{sym, subst, length, map}
use Rattle.std.specs.List.{repeat}
use Rattle.std.proofs.lemmas.List.{length-map}
use Rattle.dp_domain.specs.declared.values.Value.TheVariants as value
use Rattle.dp_law.specs.Mechanism.{Mechanism}
use Rattle.dp_law.specs.Releasing.{Released}
use Rattle.dp_law.proofs.Taking.{takes-nothing}
use Rattle.dp_chain.specs.contracts.release.ReleaseMeasurement.TheImpl.{ghosts as release_ghosts}
use Rattle.dp_group.specs.Grouped.{answers_on}
use Rattle.dp_rowwise.specs.Parts.{category_texts}
use Rattle.dp_session.specs.contracts.single.GroupReleaseInputRelease.TheImpl.{ghosts as group_ghosts}
use Rattle.dp_session.proofs.SingleTexts.{released-grouped}
use Rattle.dp_session.proofs.single.release_groups.Goals as goal

pub returns-in_default-clause-released : goal.returns-in_default-clause-released
returns-in_default-clause-released g c = takes-nothing _ _ _

pub returns-clause-released : goal.returns-clause-released
returns-clause-released g c =
    let rows = c.args.store.now.records in
    let before = g.D.Draws.state c.args.draws.now in
    let after = g.D.Draws.state c.release_each.new.draws in
    let m = release_ghosts.mechanism c.parts-column.result.0.now in
    let values = map group_ghosts.stands_for c.in-Ok.values.items in
    let each : Released g.D.Draws.step (repeat (length c.in-Ok.values.items) m.shape) (answers_on m values) before
    c.release_each.result after =
    rw c.as_slice.ensures.value at c.release_each.ensures.released in
    subst (λ (n : Mechanism). Released g.D.Draws.step n.shape (n.function (value.Rows rows)) before c.release_each.result after)
    (sym c.parts-column.ensures.grouped)
    (released-grouped g.D.Draws.step m c.parts-column.result.1 (category_texts c.parts-column.result.2.now)
    (value.Rows rows) values (length c.in-Ok.values.items) before c.release_each.result after c.in-Ok.ensures.values
    (sym (length-map c.in-Ok.values.items group_ghosts.stands_for)) each)
