-- A transformation that gives at most one element for each element gives of two joined lists what it gives of each.
use Rattle.std.proofs.Common.{◌≡◌, ℕ, ℤ, ◌+◌, ◌≤◌, Bool, true, false, List, [], ◌∷◌, length, Option, Some, None, refl, ap, arith}
use Rattle.std.specs.Prelude.{filter_map, unwrap_or}
use Rattle.std.specs.List.{cons_option}
use Rattle.std.proofs.lemmas.List.{length-map, map-append}
use Rattle.std.proofs.lemmas.List.Elements.{filter-append, filter_map-append}
use Rattle.std.proofs.lemmas.List.Sums.{length-filter, count_by-le-length}
use Rattle.dp_domain.specs.declared.values.Value.{Value}
use Rattle.dp_domain.specs.declared.values.Value.TheVariants as value
use Rattle.dp_domain.specs.Distance.{text_eq}
use Rattle.dp_domain.specs.Users.{cell}
use Rattle.dp_domain.specs.Edges.{edges_at_most}
use Rattle.dp_domain.specs.Ranges.{clamped}
use Rattle.dp_rowwise.specs.Filter.{filter_value}
use Rattle.dp_rowwise.specs.Select.{select_value}
use Rattle.dp_rowwise.specs.Cast.{cast, cast_value}
use Rattle.dp_rowwise.specs.Categories.{place_in, categories_value}
use Rattle.dp_rowwise.specs.Impute.{impute_value}
use Rattle.dp_rowwise.specs.DropNone.{drop_none_value}
use Rattle.dp_rowwise.specs.Clamp.{clamp_value}
use Rattle.dp_rowwise.specs.Bins.{bins_value}
use Rattle.dp_store.specs.Rowwise.{list_len, joined}

-- the values are lists of one kind
abbrev pub same_kind : Value → Value → Bool
same_kind (value.Rows xs) (value.Rows ys) = true
same_kind (value.Texts xs) (value.Texts ys) = true
same_kind (value.OptInts xs) (value.OptInts ys) = true
same_kind (value.Ints xs) (value.Ints ys) = true
same_kind (value.Cats xs) (value.Cats ys) = true
same_kind _ _ = false

-- the function gives of two joined lists what it gives of each, joined, and of lists of one kind such lists
abbrev pub Joins : (Value → Value) → Value → Value → Type 0
Joins f v w = (f (joined v w) ≡ joined (f v) (f w)) × (same_kind (f v) (f w) ≡ true)

pub filter-joins : (column : ℕ) (text : List ℕ) (v w : Value) → same_kind v w ≡ true → Joins (filter_value column text) v w
filter-joins column text (value.Rows xs) (value.Rows ys) h =
    (ap value.Rows (filter-append (λ cells. text_eq (cell column cells) text) xs ys), refl)
filter-joins column text (value.Texts xs) (value.Texts ys) h = (refl, refl)
filter-joins column text (value.OptInts xs) (value.OptInts ys) h = (refl, refl)
filter-joins column text (value.Ints xs) (value.Ints ys) h = (refl, refl)
filter-joins column text (value.Cats xs) (value.Cats ys) h = (refl, refl)
filter-joins column text v w h = absurd (cc)

pub select-joins : (column : ℕ) (v w : Value) → same_kind v w ≡ true → Joins (select_value column) v w
select-joins column (value.Rows xs) (value.Rows ys) h = (ap value.Texts (map-append (cell column) xs ys), refl)
select-joins column (value.Texts xs) (value.Texts ys) h = (refl, refl)
select-joins column (value.OptInts xs) (value.OptInts ys) h = (refl, refl)
select-joins column (value.Ints xs) (value.Ints ys) h = (refl, refl)
select-joins column (value.Cats xs) (value.Cats ys) h = (refl, refl)
select-joins column v w h = absurd (cc)

pub cast-joins : (v w : Value) → same_kind v w ≡ true → Joins cast_value v w
cast-joins (value.Texts xs) (value.Texts ys) h = (ap value.OptInts (map-append cast xs ys), refl)
cast-joins (value.Rows xs) (value.Rows ys) h = (refl, refl)
cast-joins (value.OptInts xs) (value.OptInts ys) h = (refl, refl)
cast-joins (value.Ints xs) (value.Ints ys) h = (refl, refl)
cast-joins (value.Cats xs) (value.Cats ys) h = (refl, refl)
cast-joins v w h = absurd (cc)

pub categories-joins : (texts : List (List ℕ)) (v w : Value) → same_kind v w ≡ true → Joins (categories_value texts) v w
categories-joins texts (value.Texts xs) (value.Texts ys) h = (ap value.Cats (map-append (place_in texts) xs ys), refl)
categories-joins texts (value.Rows xs) (value.Rows ys) h = (refl, refl)
categories-joins texts (value.OptInts xs) (value.OptInts ys) h = (refl, refl)
categories-joins texts (value.Ints xs) (value.Ints ys) h = (refl, refl)
categories-joins texts (value.Cats xs) (value.Cats ys) h = (refl, refl)
categories-joins texts v w h = absurd (cc)

pub impute-joins : (number : ℤ) (v w : Value) → same_kind v w ≡ true → Joins (impute_value number) v w
impute-joins number (value.OptInts xs) (value.OptInts ys) h = (ap value.Ints (map-append (λ x. unwrap_or x number) xs ys), refl)
impute-joins number (value.Rows xs) (value.Rows ys) h = (refl, refl)
impute-joins number (value.Texts xs) (value.Texts ys) h = (refl, refl)
impute-joins number (value.Ints xs) (value.Ints ys) h = (refl, refl)
impute-joins number (value.Cats xs) (value.Cats ys) h = (refl, refl)
impute-joins number v w h = absurd (cc)

pub drop_none-joins : (v w : Value) → same_kind v w ≡ true → Joins drop_none_value v w
drop_none-joins (value.OptInts xs) (value.OptInts ys) h = (ap value.Ints (filter_map-append (λ x. x) xs ys), refl)
drop_none-joins (value.Rows xs) (value.Rows ys) h = (refl, refl)
drop_none-joins (value.Texts xs) (value.Texts ys) h = (refl, refl)
drop_none-joins (value.Ints xs) (value.Ints ys) h = (refl, refl)
drop_none-joins (value.Cats xs) (value.Cats ys) h = (refl, refl)
drop_none-joins v w h = absurd (cc)

pub clamp-joins : (lo hi : ℤ) (v w : Value) → same_kind v w ≡ true → Joins (clamp_value lo hi) v w
clamp-joins lo hi (value.Ints xs) (value.Ints ys) h = (ap value.Ints (map-append (clamped lo hi) xs ys), refl)
clamp-joins lo hi (value.Rows xs) (value.Rows ys) h = (refl, refl)
clamp-joins lo hi (value.Texts xs) (value.Texts ys) h = (refl, refl)
clamp-joins lo hi (value.OptInts xs) (value.OptInts ys) h = (refl, refl)
clamp-joins lo hi (value.Cats xs) (value.Cats ys) h = (refl, refl)
clamp-joins lo hi v w h = absurd (cc)

pub bins-joins : (edges : List ℤ) (v w : Value) → same_kind v w ≡ true → Joins (bins_value edges) v w
bins-joins edges (value.Ints xs) (value.Ints ys) h = (ap value.Cats (map-append (edges_at_most edges) xs ys), refl)
bins-joins edges (value.Rows xs) (value.Rows ys) h = (refl, refl)
bins-joins edges (value.Texts xs) (value.Texts ys) h = (refl, refl)
bins-joins edges (value.OptInts xs) (value.OptInts ys) h = (refl, refl)
bins-joins edges (value.Cats xs) (value.Cats ys) h = (refl, refl)
bins-joins edges v w h = absurd (cc)

-- and it gives no more elements than there are
pub filter-fewer : (column : ℕ) (text : List ℕ) (v : Value) → list_len (filter_value column text v) ≤ list_len v
filter-fewer column text (value.Rows xs) =
    let has = λ (cells : List (List ℕ)). text_eq (cell column cells) text in
    let size = length-filter has xs in
    let few = count_by-le-length has xs in
    omega arith
filter-fewer column text v = omega arith

pub select-fewer : (column : ℕ) (v : Value) → list_len (select_value column v) ≤ list_len v
select-fewer column (value.Rows xs) = let size = length-map xs (cell column) in omega arith
select-fewer column v = omega arith

pub cast-fewer : (v : Value) → list_len (cast_value v) ≤ list_len v
cast-fewer (value.Texts xs) = let size = length-map xs cast in omega arith
cast-fewer v = omega arith

pub categories-fewer : (texts : List (List ℕ)) (v : Value) → list_len (categories_value texts v) ≤ list_len v
categories-fewer texts (value.Texts xs) = let size = length-map xs (place_in texts) in omega arith
categories-fewer texts v = omega arith

pub impute-fewer : (number : ℤ) (v : Value) → list_len (impute_value number v) ≤ list_len v
impute-fewer number (value.OptInts xs) = let size = length-map xs (λ x. unwrap_or x number) in omega arith
impute-fewer number v = omega arith

length-cons_option : {X : Type 0} (o : Option X) (xs : List X) → length (cons_option o xs) ≤ length xs + 1
length-cons_option None xs = omega arith
length-cons_option (Some x) xs = omega arith

length-filter_map : {X Y : Type 0} (h : X → Option Y) (xs : List X) → length (filter_map h xs) ≤ length xs
length-filter_map h [] = omega arith
length-filter_map h (x ∷ xs) =
    let here = length-cons_option (h x) (filter_map h xs) in
    let there = length-filter_map h xs in
    omega arith

pub drop_none-fewer : (v : Value) → list_len (drop_none_value v) ≤ list_len v
drop_none-fewer (value.OptInts xs) = length-filter_map (λ x. x) xs
drop_none-fewer v = omega arith

pub clamp-fewer : (lo hi : ℤ) (v : Value) → list_len (clamp_value lo hi v) ≤ list_len v
clamp-fewer lo hi (value.Ints xs) = let size = length-map xs (clamped lo hi) in omega arith
clamp-fewer lo hi v = omega arith

pub bins-fewer : (edges : List ℤ) (v : Value) → list_len (bins_value edges v) ≤ list_len v
bins-fewer edges (value.Ints xs) = let size = length-map xs (edges_at_most edges) in omega arith
bins-fewer edges v = omega arith
