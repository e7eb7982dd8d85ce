-- What is held of nodes by the numbers of the nodes, which rise: after the later ones are let go, and after one more is held.
use Rattle.std.proofs.Common.{rules, ◌≡◌, ◌≢◌, ◌≤◌, ◌<◌, ◌+◌, ℕ, zero, suc, Bool, true, false, cond, Option, Some, None, ◌⊎◌, inl, inr, List, [], ◌∷◌, ◌++◌, length, take, eqb, refl, sym, ◌∙◌, ap, arith, length-append}
use Rattle.std.specs.Prelude.{slice_get, slice_index, nat_le, IsSome}
use Rattle.std.proofs.lemmas.Bool.Decides.{nat_tests, eqb_tells}
use Rattle.std.proofs.lemmas.List.{get_or-take, length-take}
use Rattle.dp_tree.specs.Lists.{Rise}
use Rattle.dp_tree.specs.Table.{place_of}
use Rattle.dp_tree.proofs.Lists.{rise-place}
use Rattle.dp_tree.proofs.Rows.{row_within, place-le, place-found, place-none, place-append, place-past, row_append_left, row_append_last, number_append_left, number_append_last}

-- past its end a list has nothing
pub none-past : {X : Type 0} (xs : List X) (k : ℕ) → length xs ≤ k → slice_get xs k ≡ None
none-past [] k h = refl
none-past (x ∷ xs) zero h = absurd (omega arith)
none-past (x ∷ xs) (suc k) h = none-past xs k (omega arith)

pub some-within : {X : Type 0} (xs : List X) (k : ℕ) → IsSome (slice_get xs k) → k < length xs
some-within [] k h = absurd cc
some-within (x ∷ xs) zero h = omega arith
some-within (x ∷ xs) (suc k) h = let ih = some-within xs k h in omega (arith, ih)

-- the first n items
take-get : {X : Type 0} (n : ℕ) (xs : List X) (k : ℕ) → k < n → slice_get (take n xs) k ≡ slice_get xs k
take-get zero xs k h = absurd (omega arith)
take-get (suc n) [] k h = refl
take-get (suc n) (x ∷ xs) zero h = refl
take-get (suc n) (x ∷ xs) (suc k) h = take-get n xs k (omega arith)

index-take : (n : ℕ) (xs : List ℕ) (k : ℕ) → k < n → slice_index (take n xs) k ≡ slice_index xs k
index-take n xs k h = get_or-take n xs k 0 h

-- ---- the later ones are let go

take-rise : (n : ℕ) (names : List ℕ) → n ≤ length names → Rise names → Rise (take n names)
take-rise n names h rise i j less within =
    let size = length-take n names in
    let low : j < n = omega (arith, size) in
    let first : i < n = omega (arith, low) in
    rw (index-take n names i first, index-take n names j low) (rise i j less (omega (arith, low)))

-- a number of those that stay, and one that does not
stays-at : (names : List ℕ) (n k i : ℕ) → Rise names → n ≤ length names → k < n → slice_index names k ≡ i → place_of (take n names) i ≡ k
stays-at names n k i rise h low at =
    let size = length-take n names in
    rise-place (take n names) k i (take-rise n names h rise) (omega (arith, size)) (index-take n names k low ∙ at)

goes-at : (names : List ℕ) (n i : ℕ) → n ≤ length names → ((j : ℕ) → j < n → slice_index names j ≢ i) → place_of (take n names) i ≡ n
goes-at names n i h none =
    let size = length-take n names in
    place-none (take n names) i (λ j within. let low : j < n = omega (arith, size) in λ e. none j low (sym (index-take n names j low) ∙ e)) ∙ (omega (arith, size))

pub kept : {X : Type 0} (names : List ℕ) (held : List X) (p i node : ℕ) → Rise names → length held ≡ length names → p < length names → slice_index names p ≡ node
    → slice_get (take (p + 1) held) (place_of (take (p + 1) names) i) ≡ cond (nat_le i node) (slice_get held (place_of names i)) None
kept {X} names held p i node rise size within at = go (split (place_of names i) (length names) (place-le names i))
  where
    many : p + 1 ≤ length names
    many = omega arith

    split : (a b : ℕ) → a ≤ b → (a < b) ⊎ (a ≡ b)
    split a b h = elim (eqb_tells a b) [ inl k ↦ inr k.1 | inr k ↦ let ne = k.1 in inl (omega arith) ]

    cut : (a b : ℕ) → (a < b) ⊎ (b ≤ a)
    cut a b = search rules

    held-size : length (take (p + 1) held) ≤ p + 1
    held-size = let s = length-take (p + 1) held in omega (arith, s)

    none-there : ((j : ℕ) → j < p + 1 → slice_index names j ≢ i) → slice_get (take (p + 1) held) (place_of (take (p + 1) names) i) ≡ None
    none-there none = let place = goes-at names (p + 1) i many none in none-past (take (p + 1) held) (place_of (take (p + 1) names) i) (omega (arith, place, held-size))

    weak : (j : ℕ) → j < p + 1 → slice_index names j ≤ node
    weak j low = elim (split j p (omega arith)) [
      | inl h ↦ let less = rise j p h within in omega (arith, less, at)
      | inr h ↦ let same = ap (slice_index names) h in omega (arith, same, at)
    ]

    either-none : (b : Bool) (o : Option X) → o ≡ None → None ≡ cond b o None
    either-none true o h = sym h
    either-none false o h = refl

    go : (place_of names i < length names) ⊎ (place_of names i ≡ length names)
        → slice_get (take (p + 1) held) (place_of (take (p + 1) names) i) ≡ cond (nat_le i node) (slice_get held (place_of names i)) None
    go (inr e) =
        let absent = none-past held (place_of names i) (omega (arith, e, size)) in
        none-there (λ j low same. let found = rise-place names j i rise (omega arith) same in absurd (omega (arith, found, e))) ∙ either-none (nat_le i node) (slice_get held (place_of names i)) absent
    go (inl found) =
        let is = place-found names i found in
        elim (cut (place_of names i) (p + 1)) [
          | inl low ↦ let early = weak (place_of names i) low in
              let small : i ≤ node = omega (arith, early, is) in
              let yes : nat_le i node ≡ true = grind (arith, nat_tests, small) in
              let place = stays-at names (p + 1) (place_of names i) i rise many low is in
              rw (yes, place) (take-get (p + 1) held (place_of names i) low)
          | inr high ↦ let more = rise p (place_of names i) (omega arith) found in
              let large : node < i = omega (arith, more, is, at) in
              let no : nat_le i node ≡ false = grind (arith, nat_tests, large) in
              rw no (none-there (λ j low same. let w = weak j low in absurd (omega (arith, w, same, large))))
        ]

-- ---- one more is held

-- the number is above those of which something is held
abbrev pub IsAbove : {X : Type 0} → List ℕ → List X → ℕ → Type 0
IsAbove names held number = (node : ℕ) → IsSome (slice_get held (place_of names node)) → node < number

some-of : {A : Type 0} (o : Option A) (x : A) → o ≡ Some x → IsSome o
some-of o x e = rw e refl

pub more-rise : {X : Type 0} (names : List ℕ) (held : List X) (number : ℕ) → Rise names → length held ≡ length names → IsAbove names held number → Rise (names ++ number ∷ [])
more-rise names held number rise size above i j less within =
    let total = length-append names (number ∷ []) in
    elim (eqb_tells j (length names)) [
      | inl k ↦ let first : i < length names = omega (arith, k.1) in
          let at = number_append_left names (number ∷ []) i first in
          let last = number_append_last names number in
          let same = ap (slice_index (names ++ number ∷ [])) k.1 in
          let place = rise-place names i (slice_index names i) rise first refl in
          let there = row_within held i (omega (arith, size)) in
          let low = above (slice_index names i) (some-of (slice_get held (place_of names (slice_index names i))) there.0 (ap (slice_get held) place ∙ there.1)) in
          omega (arith, at, last, same, low)
      | inr k ↦ let ne = k.1 in
          let inside : j < length names = omega (arith, total) in
          let left = number_append_left names (number ∷ []) i (omega (arith, inside)) in
          let right = number_append_left names (number ∷ []) j inside in
          let low = rise i j less inside in
          omega (arith, left, right, low)
    ]

pub pushed : {X : Type 0} (names : List ℕ) (held : List X) (number : ℕ) (item : X) (i : ℕ) → Rise names → length held ≡ length names → IsAbove names held number
    → slice_get (held ++ item ∷ []) (place_of (names ++ number ∷ []) i) ≡ cond (eqb number i) (Some item) (slice_get held (place_of names i))
pushed {X} names held number item i rise size above = elim (eqb_tells number i) as (λ _. slice_get (held ++ item ∷ []) (place_of (names ++ number ∷ []) i) ≡ cond (eqb number i) (Some item) (slice_get held (place_of names i))) [
  | inl k ↦ let longer = length-append names (number ∷ []) in
      let place = rise-place (names ++ number ∷ []) (length names) i (more-rise names held number rise size above) (omega (arith, longer)) (number_append_last names number ∙ k.1) in
      rw (k.0, place) (ap (slice_get (held ++ item ∷ [])) (sym size) ∙ row_append_last held item)
  | inr k ↦ rw k.0 (other k.1 (split (place_of names i) (length names) (place-le names i)))
]
  where
    split : (a b : ℕ) → a ≤ b → (a < b) ⊎ (a ≡ b)
    split a b h = elim (eqb_tells a b) [ inl k ↦ inr k.1 | inr k ↦ let ne = k.1 in inl (omega arith) ]

    other : number ≢ i → (place_of names i < length names) ⊎ (place_of names i ≡ length names)
        → slice_get (held ++ item ∷ []) (place_of (names ++ number ∷ []) i) ≡ slice_get held (place_of names i)
    other ne (inl found) =
        rw (place-append names (number ∷ []) i found) (row_append_left held (item ∷ []) (place_of names i) (omega (arith, size)))
    other ne (inr e) =
        let past = place-past names number i e ne in
        let longer = length-append names (number ∷ []) in
        let more = length-append held (item ∷ []) in
        let none = none-past (held ++ item ∷ []) (place_of (names ++ number ∷ []) i) (omega (arith, past, longer, more, size)) in
        none ∙ sym (none-past held (place_of names i) (omega (arith, e, size)))

pub pushed-size : {X : Type 0} (names : List ℕ) (held : List X) (number : ℕ) (item : X) → length held ≡ length names
    → length (held ++ item ∷ []) ≡ length (names ++ number ∷ [])
pushed-size names held number item size =
    let more = length-append names (number ∷ []) in
    let most = length-append held (item ∷ []) in
    omega (arith, more, most, size)
