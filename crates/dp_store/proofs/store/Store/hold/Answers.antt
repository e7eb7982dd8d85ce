use Rattle.std.proofs.Common.{◌≡◌, length, refl, sym, subst}
use Rattle.std.specs.Prelude.{All}
use Rattle.dp_domain.specs.Domains.{Has}
use Rattle.dp_domain.specs.declared.domains.Domain.{Domain}
use Rattle.dp_domain.specs.declared.domains.Domain.TheVariants as domain
use Rattle.dp_domain.specs.declared.values.Value.TheVariants as value
use Rattle.dp_chain.specs.contracts.line.LineTransformation.TheImpl.{ghosts as line_ghosts}
use Rattle.dp_store.specs.Selections.{selected}
use Rattle.dp_store.specs.Taken.{IsOfColumns}
use Rattle.dp_store.proofs.ChosenRows.{selected-Has}
use Rattle.dp_store.proofs.TakenColumns.{joined-columns}
use Rattle.dp_store.proofs.store.Store.hold.Goals as goal

pub hold_stages-requires-clause-columns : goal.hold_stages-requires-clause-columns
hold_stages-requires-clause-columns c =
    let m = line_ghosts.mapping c.args.line.now in
    let columns : IsOfColumns c.args.self.now.columns m.input_domain =
    subst (λ (d : Domain). IsOfColumns c.args.self.now.columns d) (sym c.requires.domain) refl in
    joined-columns c.args.self.now.columns m.input_domain m.input_metric c.stages.result.now columns c.stages.ensures.joined

pub hold_stages-requires-clause-runs : goal.hold_stages-requires-clause-runs
hold_stages-requires-clause-runs c =
    let rows = c.args.self.now.records in
    let each : All (λ cells. length cells ≡ c.args.self.now.columns) rows =
    rw c.columns-columns.ensures.columns at c.columns-columns.ensures.each in
    let has : Has (domain.Rows c.args.self.now.columns) (value.Rows (selected rows c.args.base.now)) =
    selected-Has c.args.self.now.columns rows c.args.base.now each c.requires.base in
    c.stages.ensures.runs (value.Rows (selected rows c.args.base.now))
    (subst (λ (d : Domain). Has d (value.Rows (selected rows c.args.base.now))) (sym c.requires.domain) has)
