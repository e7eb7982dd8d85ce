use Rattle.std.proofs.Common.{◌≡◌, ◌≤◌, ◌^◌, length}
use Rattle.std.specs.List.{range_with_len}
use Rattle.dp_records.proofs.RowCells.{length-rows_of}
use Rattle.dp_store.proofs.ChosenRows.{all-selected, all-IsSelection}
use Rattle.dp_store.proofs.store.Store.whole.Goals as goal

pub returns-clause-numbers : goal.returns-clause-numbers
returns-clause-numbers c = rw (← c.self.view_is, length-rows_of c.self.inside.len c.self.inside.columns c.self.inside.cells) c.all.ensures

pub returns-clause-records : goal.returns-clause-records
returns-clause-records c =
    let all : c.all.result ≡ range_with_len 0 (length c.args.self.now.records) =
    rw (← c.self.view_is, length-rows_of c.self.inside.len c.self.inside.columns c.self.inside.cells) c.all.ensures in
    rw all (all-selected c.args.self.now.records)

pub returns-clause-selection : goal.returns-clause-selection
returns-clause-selection c =
    let all : c.all.result ≡ range_with_len 0 (length c.args.self.now.records) =
    rw (← c.self.view_is, length-rows_of c.self.inside.len c.self.inside.columns c.self.inside.cells) c.all.ensures in
    let few : length c.args.self.now.records ≤ 2 ^ 30 =
    rw (← c.self.view_is, length-rows_of c.self.inside.len c.self.inside.columns c.self.inside.cells) c.self.invariant.within in
    rw all (all-IsSelection c.args.self.now.records few)
