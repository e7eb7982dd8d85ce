use Rattle.std.proofs.Common.{◌≡◌, ◌<◌, length, sym, ap, arith}
use Rattle.dp_records.proofs.RowCells.{length-rows_of}
use Rattle.dp_store.specs.Stores.{StoreValue}
use Rattle.dp_store.proofs.StoredCells.{cell-is, cells-within}
use Rattle.dp_store.proofs.store.Store.cell.Goals as goal

pub first_cell-requires-clause-number : goal.first_cell-requires-clause-number
first_cell-requires-clause-number c =
    let size : length c.args.self.now.records ≡ c.self.inside.len = rw (← c.self.view_is) (length-rows_of c.self.inside.len c.self.inside.columns c.self.inside.cells) in
    omega (arith, c.self.invariant.within, c.requires.number)

pub at-requires : goal.at-requires
at-requires c =
    let size : length c.args.self.now.records ≡ c.self.inside.len = rw (← c.self.view_is) (length-rows_of c.self.inside.len c.self.inside.columns c.self.inside.cells) in
    let columns : c.args.self.now.columns ≡ c.self.inside.columns = ap (λ (s : StoreValue). s.columns) (sym c.self.view_is) in
    let number : c.args.number < c.self.inside.len = omega (arith, c.requires.number) in
    let within = cells-within c.self.inside.len c.self.inside.columns c.args.number number in
    omega (arith, within, c.first_cell.ensures.place, c.from.ensures, c.self.invariant.whole, c.requires.column)

pub returns : goal.returns
returns c =
    let size : length c.args.self.now.records ≡ c.self.inside.len = rw (← c.self.view_is) (length-rows_of c.self.inside.len c.self.inside.columns c.self.inside.cells) in
    let columns : c.args.self.now.columns ≡ c.self.inside.columns = ap (λ (s : StoreValue). s.columns) (sym c.self.view_is) in
    let number : c.args.number < c.self.inside.len = omega (arith, c.requires.number) in
    let column : c.args.column < c.self.inside.columns = omega (arith, c.requires.column) in
    rw (← c.self.view_is, c.at.ensures, c.first_cell.ensures.place, c.from.ensures) (cell-is c.self.inside.len c.self.inside.columns c.self.inside.cells c.args.number c.args.column number column)
