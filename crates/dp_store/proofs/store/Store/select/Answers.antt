use Rattle.std.proofs.Common.{List, ℕ, ap}
use Rattle.dp_domain.specs.Distance.{text_eq}
use Rattle.dp_domain.specs.Users.{cell}
use Rattle.dp_domain.specs.declared.values.Value.TheVariants as value
use Rattle.dp_rowwise.specs.Truncate.{record_at}
use Rattle.dp_store.specs.Selections.{has_text}
use Rattle.dp_store.proofs.ChosenRows.{filter-map, filter-IsSelection}
use Rattle.dp_store.proofs.store.Store.select.Goals as goal

pub returns-clause-records : goal.returns-clause-records
returns-clause-records c =
    let has = λ (cells : List (List ℕ)). text_eq (cell c.args.column cells) c.args.text.now in
    rw (c.in_ok-these.ensures, c.in_ok-chosen.ensures) (ap value.Rows (filter-map has (record_at c.args.self.now.records) c.args.base.now))

pub returns-clause-selection : goal.returns-clause-selection
returns-clause-selection c =
    rw (c.in_ok-these.ensures, c.in_ok-chosen.ensures)
    (filter-IsSelection c.args.self.now.records (has_text c.args.self.now.records c.args.column c.args.text.now) c.args.base.now c.requires.base)
