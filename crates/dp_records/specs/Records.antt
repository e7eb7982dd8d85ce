-- The records of a data text, each of so many cells.
use Rattle.std.specs.Prelude.{◌≡◌, ℕ, zero, suc, ◌^◌, ◌*◌, ◌/◌, ◌≤◌, ◌==◌, ◌&&◌, if◌then◌else◌, Bool, List, [], ◌∷◌, ◌++◌, take, drop, map, length, replicate}
use Rattle.std.specs.List.{flat_map}
use Rattle.dp_records.specs.RawRecords.{raw_up_to}

-- a record of more than n cells is cut at the end, and one of fewer is padded there with empty cells
abbrev pub cut_or_pad : ℕ → List (List ℕ) → List (List ℕ)
cut_or_pad n cells = take n (cells ++ replicate n [])

-- the first CSV records of a text, as many as `most`, without the first where it is a header, each cut or padded
unfoldable pub records_up_to : ℕ → ℕ → Bool → List ℕ → List (List (List ℕ))
records_up_to most columns header text = map (cut_or_pad columns) (drop (if header then 1 else 0) (raw_up_to most text))

-- the records of a text
abbrev pub records : ℕ → Bool → List ℕ → List (List (List ℕ))
records columns header text = records_up_to (2 ^ 30) columns header text

-- the cells of records, one record after another
abbrev pub all_cells : List (List (List ℕ)) → List (List ℕ)
all_cells rows = flat_map (λ cells. cells) rows

-- so many records of so many cells each, whose cells stand one after another
unfoldable pub rows_of : ℕ → ℕ → List (List ℕ) → List (List (List ℕ))
rows_of zero columns cells = []
rows_of (suc n) columns cells = take columns cells ∷ rows_of n columns (drop columns cells)

-- the cells are those of whole records of so many cells, at most 2 ^ 30 records
abbrev pub HoldsRecords : ℕ → List (List ℕ) → Type 0
HoldsRecords columns cells = (length cells / columns * columns ≡ length cells) × (length cells / columns ≤ 2 ^ 30)

-- the record that is read at this turn is the header
abbrev pub is_header : ℕ → Bool → Bool
is_header turn header = header && (turn == 0)

-- the cells that a record adds: none where it is the header
abbrev pub added_cells : Bool → ℕ → List (List ℕ) → List (List ℕ)
added_cells is_header columns cells = if is_header then [] else cut_or_pad columns cells
