-- Records and their cells, one record after another.
use Rattle.std.proofs.Common.{◌≡◌, ℕ, zero, suc, ◌+◌, ◌*◌, ◌/◌, ◌^◌, ◌≤◌, Bool, List, [], ◌∷◌, ◌++◌, take, drop, length, refl, sym, ◌∙◌, ap, arith, add-one}
use Rattle.std.specs.Prelude.{All}
use Rattle.std.proofs.lemmas.List.{take_at, drop_at, drop-drop, length-append, length-drop, length-map, length-take-le}
use Rattle.std.proofs.lemmas.List.Elements.{All-nil, All-cons, All-head, All-tail, All-map}
use Rattle.std.proofs.lemmas.Nat.{div-mul-add}
use Rattle.csv.specs.Machine.{next_record, Read}
use Rattle.csv.specs.Reading.{records_from, records_next, default_config}
use Rattle.csv.specs.declared.parser.State.{State}
use Rattle.dp_domain.specs.Domains.{Has}
use Rattle.dp_domain.specs.declared.domains.Domain.TheVariants as domain
use Rattle.dp_domain.specs.declared.values.Value.TheVariants as value
use Rattle.std.specs.Prelude.{Option, Some, None, Result, Ok, Err, IfOk}
use Rattle.dp_records.specs.RawRecords.{raw_up_to}
use Rattle.dp_records.specs.Records.{cut_or_pad, records_up_to, all_cells, rows_of, HoldsRecords}
use Rattle.dp_records.proofs.CutCells.{length-cut_or_pad}

-- each record has so many cells
abbrev pub AllOf : ℕ → List (List (List ℕ)) → Type 0
AllOf columns rows = All (λ cells. length cells ≡ columns) rows

-- the cells of records, taken apart again, are the records
pub rows_of-cells : (columns : ℕ) (rows : List (List (List ℕ))) → AllOf columns rows → rows_of (length rows) columns (all_cells rows) ≡ rows
unfolding rows_of
rows_of-cells columns [] h = refl
rows_of-cells columns (r ∷ rs) h =
    let here : length r ≡ columns = All-head (λ cells. length cells ≡ columns) r rs h in
    let first = take_at r (all_cells rs) columns here in
    let others = drop_at r (all_cells rs) columns here in
    rw (first, others, rows_of-cells columns rs (All-tail (λ cells. length cells ≡ columns) r rs h)) refl

pub length-all_cells : (columns : ℕ) (rows : List (List (List ℕ))) → AllOf columns rows → length (all_cells rows) ≡ length rows * columns
length-all_cells columns [] h = omega arith
length-all_cells columns (r ∷ rs) h =
    let here : length r ≡ columns = All-head (λ cells. length cells ≡ columns) r rs h in
    let others = length-all_cells columns rs (All-tail (λ cells. length cells ≡ columns) r rs h) in
    let size = length-append r (all_cells rs) in
    grind arith

-- how many records there are, by their cells
pub count-records : (columns : ℕ) (rows : List (List (List ℕ))) → 1 ≤ columns → AllOf columns rows → length (all_cells rows) / columns ≡ length rows
count-records columns rows some h =
    let whole : length (all_cells rows) ≡ length rows * columns + 0 = omega (arith, length-all_cells columns rows h) in
    rw whole (div-mul-add (length rows) columns 0 (omega arith))

pub whole-records : (columns : ℕ) (rows : List (List (List ℕ))) → 1 ≤ columns → AllOf columns rows → length rows ≤ 2 ^ 30 → HoldsRecords columns (all_cells rows)
whole-records columns rows some h few =
    let count = count-records columns rows some h in
    (rw count (sym (length-all_cells columns rows h)), rw count few)

-- all records, by their cells
pub rows-again : (columns : ℕ) (rows : List (List (List ℕ))) → 1 ≤ columns → AllOf columns rows
    → rows_of (length (all_cells rows) / columns) columns (all_cells rows) ≡ rows
rows-again columns rows some h = rw (count-records columns rows some h) (rows_of-cells columns rows h)

-- the same, from cells that are those of the records
pub rows-are : (columns : ℕ) (cells : List (List ℕ)) (rows : List (List (List ℕ))) → 1 ≤ columns → AllOf columns rows → cells ≡ all_cells rows
    → rows_of (length cells / columns) columns cells ≡ rows
rows-are columns cells rows some h e = rw e (rows-again columns rows some h)

pub length-rows_of : (n columns : ℕ) (cells : List (List ℕ)) → length (rows_of n columns cells) ≡ n
unfolding rows_of
length-rows_of zero columns cells = refl
length-rows_of (suc n) columns cells = ap suc (length-rows_of n columns (drop columns cells))

rows_of-suc : (n columns : ℕ) (cells : List (List ℕ)) → rows_of (suc n) columns cells ≡ rows_of n columns cells ++ take columns (drop (n * columns) cells) ∷ []
unfolding rows_of
rows_of-suc zero columns cells =
    let none : 0 * columns ≡ 0 = omega arith in
    rw none refl
rows_of-suc (suc n) columns cells =
    let rest = rows_of-suc n columns (drop columns cells) in
    let at : columns + n * columns ≡ suc n * columns = grind arith in
    ap (λ (l : List (List (List ℕ))). take columns cells ∷ l) (rest ∙ rw (drop-drop (n * columns) columns cells, at) refl)

pub rows_of-none : (columns : ℕ) (cells : List (List ℕ)) → rows_of 0 columns cells ≡ []
unfolding rows_of
rows_of-none columns cells = refl

-- one record more
pub rows_of-more : (n columns : ℕ) (cells : List (List ℕ)) → rows_of (n + 1) columns cells ≡ rows_of n columns cells ++ take columns (drop (n * columns) cells) ∷ []
rows_of-more n columns cells = rw (add-one n) (rows_of-suc n columns cells)

-- records of enough cells have so many each
pub rows_of-AllOf : (n columns : ℕ) (cells : List (List ℕ)) → n * columns ≤ length cells → AllOf columns (rows_of n columns cells)
unfolding rows_of
rows_of-AllOf zero columns cells h = All-nil (λ cells. length cells ≡ columns)
rows_of-AllOf (suc n) columns cells h =
    let step : suc n * columns ≡ columns + n * columns = grind arith in
    let here : columns ≤ length cells = omega (arith, step) in
    let rest : n * columns ≤ length (drop columns cells) = omega (arith, step, length-drop columns cells) in
    All-cons (λ cells. length cells ≡ columns) (take columns cells) (rows_of n columns (drop columns cells)) (length-take-le columns cells here) (rows_of-AllOf n columns (drop columns cells) rest)

-- cells of whole records give a value of the domain
pub rows_of-Has : (columns : ℕ) (cells : List (List ℕ)) → HoldsRecords columns cells → Has (domain.Rows columns) (value.Rows (rows_of (length cells / columns) columns cells))
rows_of-Has columns cells h =
    let enough : length cells / columns * columns ≤ length cells = omega (arith, h.0) in
    (rw (length-rows_of (length cells / columns) columns cells) h.1, rows_of-AllOf (length cells / columns) columns cells enough)

each : {X : Type 0} (P : X → Type 0) → ((x : X) → P x) → (xs : List X) → All P xs
each P h [] = All-nil P
each P h (x ∷ xs) = All-cons P x xs (h x) (each P h xs)

-- every record of a text has so many cells
pub records-AllOf : (most columns : ℕ) (header : Bool) (text : List ℕ) → AllOf columns (records_up_to most columns header text)
unfolding records_up_to
records-AllOf most columns header text = All-map (λ cells. length cells ≡ columns) (cut_or_pad columns) _ (each (λ cells. length (cut_or_pad columns cells) ≡ columns) (length-cut_or_pad columns) _)

next-few : (most : ℕ) (o : Option Read) → ((s : State) (text : List ℕ) → length (records_from default_config most s text) ≤ most)
    → length (records_next (records_from default_config most) o) ≤ suc most
next-few most None h = omega arith
next-few most (Some p) h = let rest = h p.1 p.2 in omega arith

records_from-few : (most : ℕ) (s : State) (text : List ℕ) → length (records_from default_config most s text) ≤ most
unfolding records_from
records_from-few zero s text = omega arith
records_from-few (suc most) s text = next-few most (next_record default_config s [] [] text) (λ s text. records_from-few most s text)

-- a text has no more records than are asked for
pub records-few : (most columns : ℕ) (header : Bool) (text : List ℕ) → length (records_up_to most columns header text) ≤ most
unfolding records_up_to raw_up_to
records-few most columns header text =
    let raw : length (raw_up_to most text) ≤ most = records_from-few most _ _ in
    simp (length-map, length-drop) (omega (arith, raw))

-- the cells of a text's records are those of whole records
pub whole-cells : {E : Type 0} (columns : ℕ) (header : Bool) (text : List ℕ) (result : Result (List (List ℕ)) E) → 1 ≤ columns
    → IfOk result (λ cells. cells ≡ all_cells (records_up_to (2 ^ 30) columns header text)) → IfOk result (HoldsRecords columns)
whole-cells columns header text (Ok cells) some h =
    rw h (whole-records columns (records_up_to (2 ^ 30) columns header text) some (records-AllOf (2 ^ 30) columns header text) (records-few (2 ^ 30) columns header text))
whole-cells columns header text (Err e) some h = h
