use Rattle.std.proofs.Common.{◌^◌, ap, ◌∙◌}
use Rattle.dp_domain.specs.declared.values.Value.TheVariants as value
use Rattle.dp_records.proofs.RowCells.{rows-are, records-AllOf}
use Rattle.dp_records.proofs.records.records_of.Goals as goal

pub returns : goal.returns
returns c = ap value.Rows (c.in_ok-rows_of.ensures ∙ rows-are c.args.columns _ _ c.requires.some (records-AllOf (2 ^ 30) c.args.columns c.args.header c.args.bytes.now) c.in_ok-cells.ensures.cells)
