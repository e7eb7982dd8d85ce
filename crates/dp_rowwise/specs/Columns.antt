-- Columns of a domain.
use Rattle.std.specs.Prelude.{ℕ, ◌<◌}
use Rattle.dp_domain.specs.declared.domains.Domain.{Domain}
use Rattle.dp_domain.specs.declared.domains.Domain.TheVariants as domain

-- the domain is that of records, and they have the column, counted from 0
abbrev pub HasColumn : Domain → ℕ → Type 0
HasColumn (domain.Rows columns) column = column < columns
HasColumn _ column = ⊥
