use Rattle.dp_records.proofs.RowCells.{records-AllOf, records-few}
use Rattle.std.proofs.Common.{◌^◌}
use Rattle.dp_records.proofs.laws.domain_law.Goals as goal

pub returns : goal.returns
returns c = λ columns header text. (records-few (2 ^ 30) columns header text, records-AllOf (2 ^ 30) columns header text)
