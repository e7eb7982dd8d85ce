use Rattle.std.proofs.Common.{◌≡◌, ap, ◌∙◌}
use Rattle.dp_domain.specs.declared.values.Value.TheVariants as value
use Rattle.dp_rowwise.specs.Truncate.{kept_places}
use Rattle.dp_store.specs.Selections.{selected}
use Rattle.dp_store.proofs.ChosenRows.{kept-within, truncated-numbers, truncated-IsSelection}
use Rattle.dp_store.proofs.store.Store.truncate.Goals as goal

pub numbers_at-requires : goal.numbers_at-requires
numbers_at-requires c =
    kept-within c.args.self.now.records c.args.base.now c.as_slice.result.now c.args.column c.args.most (c.as_slice.ensures.value ∙ c.in_ok-places.ensures)

pub returns-clause-records : goal.returns-clause-records
returns-clause-records c =
    let kept : c.as_slice.result.now ≡ kept_places c.args.column c.args.most (selected c.args.self.now.records c.args.base.now) =
    c.as_slice.ensures.value ∙ c.in_ok-places.ensures in
    rw (c.in_ok-these.ensures, c.in_ok-chosen.ensures) (ap value.Rows (truncated-numbers c.args.self.now.records c.args.base.now c.as_slice.result.now c.args.column c.args.most kept))

pub returns-clause-selection : goal.returns-clause-selection
returns-clause-selection c =
    let kept : c.as_slice.result.now ≡ kept_places c.args.column c.args.most (selected c.args.self.now.records c.args.base.now) =
    c.as_slice.ensures.value ∙ c.in_ok-places.ensures in
    rw (c.in_ok-these.ensures, c.in_ok-chosen.ensures) (truncated-IsSelection c.args.self.now.records c.args.base.now c.as_slice.result.now c.args.column c.args.most c.requires.base kept)
