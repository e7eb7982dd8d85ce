use Rattle.std.proofs.Common.{◌^◌, ap, ◌∙◌, rules}
use Rattle.dp_domain.specs.declared.values.Value.TheVariants as value
use Rattle.dp_records.proofs.RowCells.{rows-are, rows_of-Has, records-AllOf}
use Rattle.dp_records.proofs.ShelfRest.{emptied-keeps}
use Rattle.dp_records.proofs.records.read_records.Goals as goal

pub returns-in_err-rows_of-clause-rest : goal.returns-in_err-rows_of-clause-rest
returns-in_err-rows_of-clause-rest g c =
    let kept = emptied-keeps (g.S.Shelf.left c.args.shelf.now c.args.slot) (g.S.Shelf.left c.read_cells.new.shelf c.args.slot) c.in_ok-cells.ensures.end in
    search (rules, kept)

pub returns-clause-records : goal.returns-clause-records
returns-clause-records g c = λ left is.
    ap value.Rows (c.in_ok-rows_of.ensures ∙ rows-are c.args.columns _ _ c.requires.some (records-AllOf (2 ^ 30) c.args.columns c.args.header left) (c.in_ok-cells.ensures.cells left is))

pub returns-clause-within : goal.returns-clause-within
returns-clause-within g c = rw c.in_ok-rows_of.ensures (rows_of-Has c.args.columns c.in_ok-cells.cells c.in_ok-cells.ensures.whole)
