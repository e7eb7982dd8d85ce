-- The root of a tree has a row, which tells what it has spent, and keeps it.
use Rattle.std.proofs.Common.{◌≡◌, ℕ, ◌+◌, Option, Some, None, IsSome, IfSome, List, [], ◌∷◌, ◌++◌, length, slice_get, refl, ◌∙◌, ap, subst, arith, cond, eqb}
use Rattle.std.proofs.lemmas.Option.{slice_get-map, slice_get_within}
use Rattle.std.proofs.lemmas.List.{length-map, map-append}
use Rattle.dp_tree.specs.History.{Seat, Event, spent, total}
use Rattle.dp_tree.specs.Table.{Row, TreeValue, numbers, place_of, row_of, depth_of_row, charged_row, charged_rows, new_row, asked, opened}
use Rattle.dp_tree.specs.Standing.{Stands}
use Rattle.dp_tree.proofs.Rows.{row_append_left, place-append}
use Rattle.dp_tree.proofs.Standing.{numbers-charged}
use Rattle.dp_tree.proofs.Walks.{row-account}

-- the row that is there
pub some-row : (o : Option Row) → IsSome o → (row : Row) × (o ≡ Some row)
some-row None h = absurd cc
some-row (Some row) h = (row, refl)

pub is-some : (o : Option Row) (row : Row) → o ≡ Some row → IsSome o
is-some o row h = rw h refl

-- what the root's row has spent is what the history says
pub root-spends : (root : Seat) (past : List Event) (t : TreeValue) (n : ℕ) → Stands root past t → IsSome (row_of t 0) → IfSome (row_of t 0) (λ row. n ≡ row.budget.spent) → n ≡ spent past 0
root-spends root past t n s there is =
    let row = some-row (row_of t 0) there in
    let said : n ≡ row.0.budget.spent = subst (λ (o : Option Row). IfSome o (λ (r : Row). n ≡ r.budget.spent)) row.1 is in
    said ∙ ap (λ b. b.spent) (row-account root past t 0 row.0 s row.1)

charged-there : (i number cost : ℕ) (rows : List Row) (place : ℕ) (row : Row) → slice_get rows place ≡ Some row → slice_get (charged_rows i number cost rows) place ≡ Some (cond (eqb row.number i) (charged_row number cost row) row)
charged-there i number cost rows place row h =
    slice_get-map (λ (old : Row). cond (eqb old.number i) (charged_row number cost old) old) rows place
    ∙ rw h refl

pub root-asked : (t : TreeValue) (i number cost : ℕ) → IsSome (row_of t 0) → IsSome (row_of (asked t i number cost) 0)
root-asked t i number cost there =
    let row = some-row (row_of t 0) there in
    is-some (row_of (asked t i number cost) 0) (cond (eqb row.0.number i) (charged_row number cost row.0) row.0)
    (rw (numbers-charged i number cost t.rows) (charged-there i number cost t.rows (place_of (numbers t.rows) 0) row.0 row.1))

pub root-opened : (t : TreeValue) (i number : ℕ) (seat : Seat) → IsSome (row_of t 0) → IsSome (row_of (opened t i number seat) 0)
root-opened t i number seat there =
    let row = some-row (row_of t 0) there in
    let charged = charged_rows i number (total seat.rule) t.rows in
    let new = new_row number (place_of (numbers t.rows) i) (depth_of_row (row_of t i) + 1) seat in
    let inside = slice_get_within t.rows (place_of (numbers t.rows) 0) row.0 row.1 in
    let many = length-map t.rows (λ (r : Row). r.number) in
    let as_many = ap length (numbers-charged i number (total seat.rule) t.rows) in
    let charged_many = length-map charged (λ (r : Row). r.number) in
    let names : numbers (charged ++ new ∷ []) ≡ numbers t.rows ++ number ∷ []
    = map-append (λ (r : Row). r.number) charged (new ∷ []) ∙ ap (λ ns. ns ++ number ∷ []) (numbers-charged i number (total seat.rule) t.rows) in
    let at : place_of (numbers (charged ++ new ∷ [])) 0 ≡ place_of (numbers t.rows) 0
    = ap (λ ns. place_of ns 0) names ∙ place-append (numbers t.rows) (number ∷ []) 0 (omega (arith, inside, many)) in
    is-some (row_of (opened t i number seat) 0) (cond (eqb row.0.number i) (charged_row number (total seat.rule) row.0) row.0)
    (rw at (row_append_left charged (new ∷ []) (place_of (numbers t.rows) 0) (omega (arith, inside, many, as_many, charged_many))
    ∙ charged-there i number (total seat.rule) t.rows (place_of (numbers t.rows) 0) row.0 row.1))
