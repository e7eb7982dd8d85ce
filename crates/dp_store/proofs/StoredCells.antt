-- Where a store's records and their cells stand.
use Rattle.std.proofs.Common.{◌≡◌, ℕ, zero, suc, ◌+◌, ◌*◌, ◌^◌, ◌<◌, ◌≤◌, List, [], take, drop, get_or, refl, sym, ◌∙◌, arith}
use Rattle.std.proofs.lemmas.List.{drop-drop, get_or-take, get_or-drop}
use Rattle.std.proofs.Math.Nat.{mul-le-mul_left}
use Rattle.dp_domain.specs.Users.{cell}
use Rattle.dp_records.specs.Records.{rows_of}
use Rattle.dp_records.proofs.RowCells.{AllOf, rows_of-AllOf}
use Rattle.dp_rowwise.specs.Truncate.{record_at}
use Rattle.dp_store.specs.Stores.{IsStored}

-- a record is the cells behind those of the records before it
pub record-is : (n columns : ℕ) (cells : List (List ℕ)) (k : ℕ) → k < n → record_at (rows_of n columns cells) k ≡ take columns (drop (k * columns) cells)
unfolding rows_of
record-is zero columns cells k h = absurd (omega arith)
record-is (suc n) columns cells zero h =
    let none : 0 * columns ≡ 0 = omega arith in
    rw none refl
record-is (suc n) columns cells (suc k) h =
    let at : columns + k * columns ≡ suc k * columns = grind arith in
    record-is n columns (drop columns cells) k (omega arith) ∙ rw (drop-drop (k * columns) columns cells, at) refl

-- a cell of a record, by its place among all
pub cell-is : (n columns : ℕ) (cells : List (List ℕ)) (k column : ℕ) → k < n → column < columns
    → get_or cells (k * columns + column) [] ≡ cell column (record_at (rows_of n columns cells) k)
cell-is n columns cells k column h lt =
    rw (record-is n columns cells k h) (sym (get_or-take columns (drop (k * columns) cells) column [] lt ∙ get_or-drop (k * columns) cells column []))

-- the cells of a record end within those of all records
pub cells-within : (n columns k : ℕ) → k < n → k * columns + columns ≤ n * columns
cells-within n columns k h =
    let next : columns * suc k ≤ columns * n = mul-le-mul_left columns h in
    let step : columns * suc k ≡ k * columns + columns = grind arith in
    let turned : columns * n ≡ n * columns = grind arith in
    omega arith

-- there are few cells
pub few-cells : (k columns : ℕ) → k ≤ 2 ^ 30 → columns ≤ 64 → k * columns ≤ 2 ^ 36
few-cells k columns h few =
    let wide : k * columns ≤ k * 64 = mul-le-mul_left k few in
    omega arith

-- a store's records have so many cells each
pub stored-AllOf : (n columns : ℕ) (cells : List (List ℕ)) → IsStored n columns cells → AllOf columns (rows_of n columns cells)
stored-AllOf n columns cells h = rows_of-AllOf n columns cells (omega (arith, h.whole))
