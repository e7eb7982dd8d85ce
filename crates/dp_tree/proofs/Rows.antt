-- Places in a list of numbers, and rows at a place.
use Rattle.std.proofs.Common.{◌≡◌, ◌≢◌, ℕ, zero, suc, ◌≤◌, ◌<◌, Bool, true, false, cond, Option, Some, ◌⊎◌, inl, inr, List, [], ◌∷◌, ◌++◌, map, length, slice_get, slice_index, refl, sym, ◌∙◌, ap, arith, eqb}
use Rattle.std.proofs.lemmas.Bool.Decides.{nat_tests, eqb_tells}
use Rattle.std.proofs.lemmas.List.{length-append}
use Rattle.dp_tree.specs.Table.{place_of}

-- a choice that is something is one of its two
pub chosen : {A : Type 0} (test : Bool) (x y : Option A) (v : A) → cond test x y ≡ Some v → ((test ≡ true) × (x ≡ Some v)) ⊎ ((test ≡ false) × (y ≡ Some v))
chosen true x y v h = inl (refl, h)
chosen false x y v h = inr (refl, h)

pub eqb-same : (a : ℕ) → eqb a a ≡ true
eqb-same a = grind (arith, nat_tests)

pub eqb-other : (a b : ℕ) → a ≢ b → eqb a b ≡ false
eqb-other a b h = grind (arith, nat_tests)

-- the number at a place is the row's
pub slice_index-map : {X : Type 0} (f : X → ℕ) (xs : List X) (k : ℕ) (x : X) → slice_get xs k ≡ Some x → slice_index (map f xs) k ≡ f x
slice_index-map f [] k x h = absurd cc
slice_index-map f (y ∷ xs) zero x h = cc
slice_index-map f (y ∷ xs) (suc k) x h = slice_index-map f xs k x h

-- a place within the list has a row
pub row_within : {X : Type 0} (xs : List X) (k : ℕ) → k < length xs → (x : X) × (slice_get xs k ≡ Some x)
row_within [] k h = absurd (omega arith)
row_within (x ∷ xs) zero h = (x, refl)
row_within (x ∷ xs) (suc k) h = row_within xs k (omega arith)

pub row_append_left : {X : Type 0} (xs ys : List X) (k : ℕ) → k < length xs → slice_get (xs ++ ys) k ≡ slice_get xs k
row_append_left [] ys k h = absurd (omega arith)
row_append_left (x ∷ xs) ys zero h = refl
row_append_left (x ∷ xs) ys (suc k) h = row_append_left xs ys k (omega arith)

pub row_append_last : {X : Type 0} (xs : List X) (y : X) → slice_get (xs ++ y ∷ []) (length xs) ≡ Some y
row_append_last [] y = refl
row_append_last (x ∷ xs) y = row_append_last xs y

-- a row of a list with one row more is one of the list, or the new one
pub row_append : {X : Type 0} (xs : List X) (y : X) (k : ℕ) (x : X) → slice_get (xs ++ y ∷ []) k ≡ Some x → (slice_get xs k ≡ Some x) ⊎ ((k ≡ length xs) × (x ≡ y))
row_append [] y zero x h = inr (refl, cc)
row_append [] y (suc k) x h = absurd cc
row_append (z ∷ xs) y zero x h = inl h
row_append (z ∷ xs) y (suc k) x h = elim (row_append xs y k x h) [
  | inl e ↦ inl e
  | inr e ↦ inr (ap suc e.0, e.1)
]

pub number_append_left : (xs ys : List ℕ) (k : ℕ) → k < length xs → slice_index (xs ++ ys) k ≡ slice_index xs k
number_append_left [] ys k h = absurd (omega arith)
number_append_left (x ∷ xs) ys zero h = refl
number_append_left (x ∷ xs) ys (suc k) h = number_append_left xs ys k (omega arith)

pub number_append_last : (xs : List ℕ) (y : ℕ) → slice_index (xs ++ y ∷ []) (length xs) ≡ y
number_append_last [] y = refl
number_append_last (x ∷ xs) y = number_append_last xs y

-- the place of a number is 0 where it comes first
pub place-here : (name i : ℕ) (names : List ℕ) → name ≡ i → place_of (name ∷ names) i ≡ 0
place-here name i names e = rw (e, eqb-same i) refl

-- and one more than its place in the rest where it does not
pub place-there : (name i : ℕ) (names : List ℕ) → name ≢ i → place_of (name ∷ names) i ≡ suc (place_of names i)
place-there name i names e = rw (eqb-other name i e) (omega arith)

pub place-le : (names : List ℕ) (i : ℕ) → place_of names i ≤ length names
place-le [] i = omega arith
place-le (name ∷ names) i = elim (eqb_tells name i) [
  | inl h ↦ rw (place-here name i names h.1) (omega arith)
  | inr h ↦ rw (place-there name i names h.1) (let ih = place-le names i in omega (arith, ih))
]

-- the place of a number that is there has this number
pub place-found : (names : List ℕ) (i : ℕ) → place_of names i < length names → slice_index names (place_of names i) ≡ i
place-found [] i h = absurd (omega arith)
place-found (name ∷ names) i h = elim (eqb_tells name i) [
  | inl e ↦ rw (place-here name i names e.1) e.1
  | inr e ↦
      let there = place-there name i names e.1 in
      rw there (place-found names i (omega (arith, h, there)))
]

-- a number that stands at a place, and at none before it
pub place-at : (names : List ℕ) (k i : ℕ) → k < length names → slice_index names k ≡ i → ((j : ℕ) → j < k → slice_index names j ≢ i) → place_of names i ≡ k
place-at [] k i h e before = absurd (omega arith)
place-at (name ∷ names) zero i h e before = place-here name i names e
place-at (name ∷ names) (suc k) i h e before =
    place-there name i names (before 0 (omega arith))
    ∙ ap suc (place-at names k i (omega arith) e (λ j l. before (suc j) (omega arith)))

-- a number that is nowhere
pub place-none : (names : List ℕ) (i : ℕ) → ((j : ℕ) → j < length names → slice_index names j ≢ i) → place_of names i ≡ length names
place-none [] i other = refl
place-none (name ∷ names) i other =
    place-there name i names (other 0 (omega arith))
    ∙ ap suc (place-none names i (λ j l. other (suc j) (omega arith)))

pub place-append : (names more : List ℕ) (i : ℕ) → place_of names i < length names → place_of (names ++ more) i ≡ place_of names i
place-append [] more i h = absurd (omega arith)
place-append (name ∷ names) more i h = elim (eqb_tells name i) [
  | inl e ↦ place-here name i (names ++ more) e.1 ∙ sym (place-here name i names e.1)
  | inr e ↦
      let there = place-there name i names e.1 in
      place-there name i (names ++ more) e.1
      ∙ ap suc (place-append names more i (omega (arith, h, there)))
      ∙ sym there
]

-- a number at the end is there
pub place-last : (names : List ℕ) (i : ℕ) → place_of (names ++ i ∷ []) i < length (names ++ i ∷ [])
place-last [] i = let here = place-here i i [] refl in omega (arith, here)
place-last (name ∷ names) i = elim (eqb_tells name i) [
  | inl e ↦ let here = place-here name i (names ++ i ∷ []) e.1 in omega (arith, here)
  | inr e ↦
      let there = place-there name i (names ++ i ∷ []) e.1 in
      let ih = place-last names i in
      omega (arith, there, ih)
]

-- a number that is there is so in a list with one number more
pub place-more : (names : List ℕ) (i more : ℕ) → place_of names i < length names → place_of (names ++ more ∷ []) i < length (names ++ more ∷ [])
place-more names i more h =
    let same = place-append names (more ∷ []) i h in
    let l = length-append names (more ∷ []) in
    omega (arith, h, l, same)

-- a number that is nowhere is nowhere in a list with another number more
pub place-past : (names : List ℕ) (more i : ℕ) → place_of names i ≡ length names → more ≢ i → place_of (names ++ more ∷ []) i ≡ length (names ++ more ∷ [])
place-past [] more i h other = place-there more i [] other
place-past (name ∷ names) more i h other = elim (eqb_tells name i) [
  | inl e ↦ absurd (let here = place-here name i names e.1 in omega (arith, h, here))
  | inr e ↦
      let there = place-there name i names e.1 in
      place-there name i (names ++ more ∷ []) e.1
      ∙ ap suc (place-past names more i (omega (arith, h, there)) other)
]
