-- What is read of a made part: the parameters that its function has.
use Rattle.std.specs.Prelude.{ℕ, ℤ, List}
use Rattle.dp_rowwise.specs.declared.bins.Bins.{Bins}
use Rattle.dp_rowwise.specs.declared.categories.Categories.{Categories}
use Rattle.dp_rowwise.specs.declared.clamp.Clamp.{Clamp}
use Rattle.dp_rowwise.specs.declared.filter.Filter.{Filter}
use Rattle.dp_rowwise.specs.declared.impute.Impute.{Impute}
use Rattle.dp_rowwise.specs.declared.select.Select.{Select}
use Rattle.dp_rowwise.specs.declared.truncate.Truncate.{Truncate}

-- the column of a filter, from 0, and its text
abbrev pub filter_column : Filter → ℕ
filter_column part = part.column

abbrev pub filter_text : Filter → List ℕ
filter_text part = part.text.items

-- the column that a selection gives, from 0
abbrev pub select_column : Select → ℕ
select_column part = part.column

-- the column that names the persons, from 0, and how many records of each stay at most
abbrev pub truncate_column : Truncate → ℕ
truncate_column part = part.column

abbrev pub truncate_most : Truncate → ℕ
truncate_most part = part.most

-- the texts of categories, in order
abbrev pub category_texts : Categories → List (List ℕ)
category_texts part = part.table

-- the number in the place of each missing one
abbrev pub imputed_number : Impute → ℤ
imputed_number part = part.value

-- the least and the greatest number of a clamp's range
abbrev pub clamp_lo : Clamp → ℤ
clamp_lo part = part.lo

abbrev pub clamp_hi : Clamp → ℤ
clamp_hi part = part.hi

-- the edges of bins
abbrev pub bin_edges : Bins → List ℤ
bin_edges part = part.edges.items
