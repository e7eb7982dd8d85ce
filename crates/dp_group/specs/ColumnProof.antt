-- That a measurement takes a column is a fact with one proof, so that a ghost field may keep it.
use Rattle.std.proofs.Common.{ℕ}
use Rattle.std.proofs.Props.{props}
use Rattle.dp_domain.specs.declared.domains.Domain.{Domain}
use Rattle.dp_domain.specs.declared.domains.Domain.TheVariants as domain
use Rattle.dp_law.specs.Mechanism.{Mechanism}
use Rattle.dp_rowwise.specs.Columns.{HasColumn}
use Rattle.dp_group.specs.Grouped.{TakesColumn}

HasColumn-prop : (d : Domain) (column : ℕ) → IsProp (HasColumn d column)
HasColumn-prop (domain.Rows columns) column = hlevel props
HasColumn-prop d column = hlevel props

pub TakesColumn-prop : (m : Mechanism) (column : ℕ) → IsProp (TakesColumn m column)
TakesColumn-prop m column = HasColumn-prop m.input_domain column
