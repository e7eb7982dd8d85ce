-- Every text has records.
use Rattle.std.specs.Prelude.{ℕ, Bool, List}
use Rattle.dp_domain.specs.Domains.{Has}
use Rattle.dp_domain.specs.declared.domains.Domain.TheVariants as domain
use Rattle.dp_domain.specs.declared.values.Value.TheVariants as value
use Rattle.dp_records.specs.Records.{records}

-- the records of any text are in the domain of records of so many cells
abbrev pub DomainLaw : Type 0
DomainLaw = (columns : ℕ) (header : Bool) (text : List ℕ)
    → Has (domain.Rows columns) (value.Rows (records columns header text))
