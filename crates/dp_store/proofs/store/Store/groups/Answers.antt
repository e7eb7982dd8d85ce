use Rattle.std.proofs.Common.{◌≡◌, ◌∙◌, map, ap, sym, subst, List, ℕ}
use Rattle.std.specs.Prelude.{All}
use Rattle.std.proofs.lemmas.Result.{IfOk-weaker}
use Rattle.dp_domain.specs.declared.values.Value.TheVariants as value
use Rattle.dp_rowwise.specs.Filter.{filter_value}
use Rattle.dp_rowwise.specs.Parts.{category_texts}
use Rattle.dp_store.specs.Selections.{IsSelection, selected}
use Rattle.dp_store.proofs.GroupedRows.{groups-records, groups-selections}
use Rattle.dp_store.proofs.store.Store.groups.Goals as goal

pub returns-clause-records : goal.returns-clause-records
returns-clause-records c =
    let rows = c.args.self.now.records in
    let base = c.args.base.now in
    let texts = category_texts c.args.texts.now in
    let of_group = λ (group : List ℕ). value.Rows (selected rows group) in
    IfOk-weaker c.selections.result (λ groups. groups.items ≡ c.in_ok-lists.lists.items)
    (λ groups. map of_group groups.items
    ≡ map (λ text. filter_value c.args.column text (value.Rows (selected rows base))) texts)
    (λ groups is.
    ap (map of_group) (is ∙ c.in_ok-lists.ensures) ∙ groups-records rows base c.args.column texts) c.selections.ensures

pub returns-clause-selections : goal.returns-clause-selections
returns-clause-selections c =
    let rows = c.args.self.now.records in
    let base = c.args.base.now in
    let texts = category_texts c.args.texts.now in
    IfOk-weaker c.selections.result (λ groups. groups.items ≡ c.in_ok-lists.lists.items)
    (λ groups. All (IsSelection rows) groups.items)
    (λ groups is.
    subst (λ (all : List (List ℕ)). All (IsSelection rows) all) (sym (is ∙ c.in_ok-lists.ensures))
    (groups-selections rows base c.args.column texts c.requires.base)) c.selections.ensures
