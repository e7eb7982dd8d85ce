-- Selections of records by their numbers.
use Rattle.std.specs.Prelude.{ℕ, ◌^◌, ◌<◌, ◌≤◌, Bool, List, length, map, slice_index_or, All}
use Rattle.std.specs.List.{range_with_len}
use Rattle.std.specs.Rc.{rc_slice_items}
use Rattle.dp_domain.specs.Distance.{text_eq}
use Rattle.dp_domain.specs.Users.{cell}
use Rattle.dp_rowwise.specs.Truncate.{record_at}
use Rattle.dp_store.specs.declared.selection.Numbers.{Numbers}
use Rattle.dp_store.specs.declared.selection.Numbers.TheVariants as numbers

-- all numbers below one, or these
abbrev pub numbers_of : Numbers → List ℕ
numbers_of (numbers.All count) = range_with_len 0 count
numbers_of (numbers.These shared) = rc_slice_items shared

-- at most 2 ^ 30 numbers, each of a record
abbrev pub IsSelection : List (List (List ℕ)) → List ℕ → Type 0
IsSelection rows chosen = (length chosen ≤ 2 ^ 30) × All (λ number. number < length rows) chosen

-- the records of those numbers, in order
abbrev pub selected : List (List (List ℕ)) → List ℕ → List (List (List ℕ))
selected rows chosen = map (record_at rows) chosen

-- the record of that number has the text in the column
abbrev pub has_text : List (List (List ℕ)) → ℕ → List ℕ → ℕ → Bool
has_text rows column text number = text_eq (cell column (record_at rows number)) text

-- the number at a place of a selection
abbrev pub number_at : List ℕ → ℕ → ℕ
number_at chosen place = slice_index_or chosen place 0

-- the record at a place of a selection, and past its end the one without cells
abbrev pub row_at : List (List (List ℕ)) → List ℕ → ℕ → List (List ℕ)
row_at rows chosen place = record_at (selected rows chosen) place
