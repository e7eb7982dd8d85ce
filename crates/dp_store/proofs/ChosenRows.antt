-- The records of a selection, and what filtering and truncating leave of them.
use Rattle.std.proofs.Common.{◌≡◌, ℕ, ◌^◌, ◌<◌, ◌≤◌, Bool, true, false, List, [], ◌∷◌, map, get_or, length, refl, sym, ◌∙◌, ap, arith, cond}
use Rattle.std.specs.Prelude.{All, filter, nat_lt}
use Rattle.std.specs.List.{range_with_len}
use Rattle.std.proofs.lemmas.List.{length-map, get_or-map, get_or_past}
use Rattle.std.proofs.lemmas.List.FromFn.{length-range_with_len, get_or-range_with_len}
use Rattle.std.proofs.lemmas.List.Elements.{All-head, All-tail, All-filter, All-map, All-weaker}
use Rattle.std.proofs.lemmas.List.Sums.{length-filter, count_by-le-length}
use Rattle.dp_domain.specs.Domains.{Has}
use Rattle.dp_domain.specs.declared.domains.Domain.TheVariants as domain
use Rattle.dp_domain.specs.declared.values.Value.TheVariants as value
use Rattle.dp_domain.proofs.Places.{map-places}
use Rattle.dp_rowwise.specs.Truncate.{record_at, kept_places, truncated, places, rank}
use Rattle.dp_store.specs.Selections.{IsSelection, selected, number_at}

-- the numbers below n are below it
pub range-below : (n : ℕ) → All (λ i. i < n) (range_with_len 0 n)
range-below n = λ k d h. below n k d (rw (length-range_with_len 0 n) at h)
  where
    below : (n k d : ℕ) → k < n → get_or (range_with_len 0 n) k d < n
    below n k d h = rw (get_or-range_with_len 0 n k d h) (omega arith)

filter-map-step : {X Y : Type 0} (f : X → Y) (x : X) (b : Bool) (xs : List X) → cond b (f x ∷ map f xs) (map f xs) ≡ map f (cond b (x ∷ xs) xs)
filter-map-step f x true xs = refl
filter-map-step f x false xs = refl

-- what a test leaves of a list's images is the images of what it leaves
pub filter-map : {X Y : Type 0} (p : Y → Bool) (f : X → Y) (xs : List X) → map f (filter (λ x. p (f x)) xs) ≡ filter p (map f xs)
filter-map p f [] = refl
filter-map p f (x ∷ xs) =
    sym (filter-map-step f x (p (f x)) (filter (λ y. p (f y)) xs)) ∙ ap (λ l. cond (p (f x)) (f x ∷ l) l) (filter-map p f xs)

-- fewer numbers of a selection are one
pub filter-IsSelection : (rows : List (List (List ℕ))) (p : ℕ → Bool) (chosen : List ℕ) → IsSelection rows chosen → IsSelection rows (filter p chosen)
filter-IsSelection rows p chosen h =
    let size = length-filter p chosen in
    let less = count_by-le-length p chosen in
    (omega arith, All-filter p (λ number. number < length rows) chosen h.1)

-- all numbers are a selection, of all records
pub all-IsSelection : (rows : List (List (List ℕ))) → length rows ≤ 2 ^ 30 → IsSelection rows (range_with_len 0 (length rows))
all-IsSelection rows h = (rw (length-range_with_len 0 (length rows)) h, range-below (length rows))

pub all-selected : (rows : List (List (List ℕ))) → selected rows (range_with_len 0 (length rows)) ≡ rows
all-selected rows = map-places rows []

-- the places that stay are places
pub kept-below : (column most : ℕ) (rows : List (List (List ℕ))) → All (λ place. place < length rows) (kept_places column most rows)
unfolding kept_places
kept-below column most rows = All-filter _ (λ place. place < length rows) (places rows) (range-below (length rows))

map-all : {X Y : Type 0} (f g : X → Y) (P : X → Type 0) → ((x : X) → P x → f x ≡ g x) → (xs : List X) → All P xs → map f xs ≡ map g xs
map-all f g P h [] all = refl
map-all f g P h (x ∷ xs) all =
    let here = h x (All-head P x xs all) in
    let there = map-all f g P h xs (All-tail P x xs all) in
    rw (here, there) refl

map-twice : {X Y Z : Type 0} (f : Y → Z) (g : X → Y) (xs : List X) → map f (map g xs) ≡ map (λ x. f (g x)) xs
map-twice f g [] = refl
map-twice f g (x ∷ xs) = ap (λ l. f (g x) ∷ l) (map-twice f g xs)

-- the records of the numbers at places are the records at those places
pub selected-numbers : (rows : List (List (List ℕ))) (chosen kept : List ℕ) → All (λ place. place < length chosen) kept
    → selected rows (map (number_at chosen) kept) ≡ map (record_at (selected rows chosen)) kept
selected-numbers rows chosen kept h =
    map-twice (record_at rows) (number_at chosen) kept
    ∙ map-all (λ place. record_at rows (number_at chosen place)) (record_at (selected rows chosen)) (λ place. place < length chosen)
    (λ place lt. sym (get_or-map (record_at rows) chosen place 0 [] lt)) kept h

-- so the places that stay give what truncating leaves
pub truncated-numbers : (rows : List (List (List ℕ))) (chosen kept : List ℕ) (column most : ℕ) → kept ≡ kept_places column most (selected rows chosen)
    → selected rows (map (number_at chosen) kept) ≡ truncated column most (selected rows chosen)
truncated-numbers rows chosen kept column most e =
    let size = length-map chosen (record_at rows) in
    let below = kept-below column most (selected rows chosen) in
    rw e (selected-numbers rows chosen (kept_places column most (selected rows chosen)) (rw size at below))

pub kept-within : (rows : List (List (List ℕ))) (chosen kept : List ℕ) (column most : ℕ) → kept ≡ kept_places column most (selected rows chosen) → All (λ place. place < length chosen) kept
kept-within rows chosen kept column most e =
    let size = length-map chosen (record_at rows) in
    let below = kept-below column most (selected rows chosen) in
    rw e (rw size at below)

pub kept-few : (column most : ℕ) (rows : List (List (List ℕ))) → length (kept_places column most rows) ≤ length rows
unfolding kept_places
kept-few column most rows =
    let early = λ (i : ℕ). nat_lt (rank column rows i) most in
    let size = length-filter early (places rows) in
    let few = count_by-le-length early (places rows) in
    let all = length-range_with_len 0 (length rows) in
    omega arith

pub truncated-IsSelection : (rows : List (List (List ℕ))) (chosen kept : List ℕ) (column most : ℕ) → IsSelection rows chosen → kept ≡ kept_places column most (selected rows chosen)
    → IsSelection rows (map (number_at chosen) kept)
truncated-IsSelection rows chosen kept column most h e =
    let size = length-map chosen (record_at rows) in
    let few = kept-few column most (selected rows chosen) in
    let same : length kept ≡ length (kept_places column most (selected rows chosen)) = ap length e in
    let count = length-map kept (number_at chosen) in
    let within = kept-within rows chosen kept column most e in
    (omega (arith, h.0), All-map (λ number. number < length rows) (number_at chosen) kept (All-weaker (λ place. place < length chosen) (λ place. number_at chosen place < length rows) (λ place lt. h.1 place 0 lt) kept within))

-- selected records are in the domain of all records
pub selected-Has : (columns : ℕ) (rows : List (List (List ℕ))) (chosen : List ℕ) → All (λ cells. length cells ≡ columns) rows → IsSelection rows chosen
    → Has (domain.Rows columns) (value.Rows (selected rows chosen))
selected-Has columns rows chosen each h =
    let size = length-map chosen (record_at rows) in
    (omega (arith, h.0), All-map (λ cells. length cells ≡ columns) (record_at rows) chosen (All-weaker (λ number. number < length rows) (λ number. length (record_at rows number) ≡ columns) (λ number lt. each number [] lt) chosen h.1))

-- a record at a place of a selection has so many cells, and past its end none
pub width-within : (columns : ℕ) (rows : List (List (List ℕ))) (chosen : List ℕ) (place : ℕ) → All (λ cells. length cells ≡ columns) rows → IsSelection rows chosen
    → place < length chosen → length (record_at (selected rows chosen) place) ≡ columns
width-within columns rows chosen place each h lt =
    ap length (get_or-map (record_at rows) chosen place 0 [] lt) ∙ each (number_at chosen place) [] (h.1 place 0 lt)

pub width-past : (rows : List (List (List ℕ))) (chosen : List ℕ) (place : ℕ) → length chosen ≤ place → length (record_at (selected rows chosen) place) ≡ 0
width-past rows chosen place late =
    let size = length-map chosen (record_at rows) in
    ap length (get_or_past (selected rows chosen) place [] (omega arith))
