use Rattle.std.proofs.Common.{◌≡◌, ◌<◌, length, take, drop, sym, arith}
use Rattle.dp_rowwise.specs.Truncate.{record_at}
use Rattle.dp_records.proofs.RowCells.{length-rows_of}
use Rattle.dp_store.proofs.StoredCells.{record-is, cells-within}
use Rattle.dp_store.proofs.store.Store.record_of.Goals as goal

pub first_cell-requires-clause-number : goal.first_cell-requires-clause-number
first_cell-requires-clause-number c =
    let size : length c.args.self.now.records ≡ c.self.inside.len = rw (← c.self.view_is) (length-rows_of c.self.inside.len c.self.inside.columns c.self.inside.cells) in
    omega (arith, c.self.invariant.within, c.requires)

pub texts-requires : goal.texts-requires
texts-requires c =
    let size : length c.args.self.now.records ≡ c.self.inside.len = rw (← c.self.view_is) (length-rows_of c.self.inside.len c.self.inside.columns c.self.inside.cells) in
    let number : c.args.number < c.self.inside.len = omega (arith, c.requires) in
    let within = cells-within c.self.inside.len c.self.inside.columns c.args.number number in
    omega (arith, within, c.first_cell.ensures.place, c.self.invariant.whole)

pub returns : goal.returns
returns c =
    let size : length c.args.self.now.records ≡ c.self.inside.len = rw (← c.self.view_is) (length-rows_of c.self.inside.len c.self.inside.columns c.self.inside.cells) in
    let number : c.args.number < c.self.inside.len = omega (arith, c.requires) in
    let whole : take c.self.inside.columns (drop c.first_cell.result c.self.inside.cells) ≡ record_at c.args.self.now.records c.args.number =
    rw (← c.self.view_is, c.first_cell.ensures.place) (sym (record-is c.self.inside.len c.self.inside.columns c.self.inside.cells c.args.number number)) in
    rw whole at c.texts.ensures
