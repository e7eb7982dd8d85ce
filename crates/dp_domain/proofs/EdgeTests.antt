-- Testing that edges rise, and how many of rising edges a number reaches.
use Rattle.std.proofs.Common.{◌≡◌, ℕ, zero, suc, ◌+◌, ◌≤◌, ◌<◌, ℤ, pos, Bool, true, false, ◌&&◌, cond, List, [], ◌∷◌, length, get_or, inl, inr, refl, sym, subst, add-one, arith}
use Rattle.std.specs.Prelude.{count_by, int_le, int_lt}
use Rattle.std.specs.List.{list_all, AllWithin, AllAdjacentBelow, IsAllAdjacentAnswer}
use Rattle.std.specs.List.Sorted.{IsPartitionedBy}
use Rattle.std.proofs.lemmas.Int.{ints}
use Rattle.std.proofs.lemmas.Bool.{cases_lt, cases_Bool}
use Rattle.std.proofs.lemmas.List.Sums.{AllPass-from_list_all, list_all-from_AllPass, sum_by-cons}
use Rattle.dp_domain.specs.Edges.{is_rising}

both : (a b : Bool) → (a && b) ≡ true → (a ≡ true) × (b ≡ true)
both true true h = (refl, refl)
both true false h = absurd cc
both false b h = absurd cc

less-through : (a b c : ℤ) → int_lt a b ≡ true → int_lt b c ≡ true → int_lt a c ≡ true
less-through a b c h k = grind (arith, ints)

at-most-through : (a b c : ℤ) → int_lt a b ≡ true → int_le b c ≡ true → int_le a c ≡ true
at-most-through a b c h k = grind (arith, ints)

-- each edge is below every later one
pub rising-at : (xs : List ℤ) → is_rising xs ≡ true → (i j : ℕ) (d : ℤ) → i < j → j < length xs → int_lt (get_or xs i d) (get_or xs j d) ≡ true
rising-at [] h i j d k l = absurd (omega arith)
rising-at (x ∷ xs) h i zero d k l = absurd (omega arith)
rising-at (x ∷ xs) h zero (suc j) d k l = AllPass-from_list_all (int_lt x) xs (both _ _ h).0 j d (omega arith)
rising-at (x ∷ xs) h (suc i) (suc j) d k l = rising-at xs (both _ _ h).1 i j d (omega arith) (omega arith)

adjacent-tail : (R : ℤ → ℤ → Type 0) (x : ℤ) (xs : List ℤ) → AllAdjacentBelow R (x ∷ xs) (length (x ∷ xs)) → AllAdjacentBelow R xs (length xs)
adjacent-tail R x xs h = λ k d l. rw add-one (rw (add-one, add-one) at (h (k + 1) d (omega arith)))

below-all : (x y : ℤ) (ys : List ℤ) → int_lt x y ≡ true → list_all (int_lt y) ys ≡ true → list_all (int_lt x) ys ≡ true
below-all x y ys h k = list_all-from_AllPass (int_lt x) ys (λ i d l. less-through x y (get_or ys i d) h (AllPass-from_list_all (int_lt y) ys k i d l))

rising-more : (x y : ℤ) (ys : List ℤ) → int_lt x y ≡ true → is_rising (y ∷ ys) ≡ true → is_rising (x ∷ y ∷ ys) ≡ true
rising-more x y ys h rest =
    let above = below-all x y ys h (both _ _ rest).0 in
    rw (h, above, rest) refl

rising-from : (xs : List ℤ) → AllAdjacentBelow (λ x y. true ≡ int_lt x y) xs (length xs) → is_rising xs ≡ true
rising-from [] h = refl
rising-from (x ∷ []) h = refl
rising-from (x ∷ y ∷ ys) h = rising-more x y ys (sym (h 0 x (omega arith))) (rising-from (y ∷ ys) (adjacent-tail (λ x y. true ≡ int_lt x y) x (y ∷ ys) h))

-- a test of each edge against the next answers whether the edges rise
pub rising-answer : (xs : List ℤ) (r : Bool) → IsAllAdjacentAnswer (λ x y b. b ≡ int_lt x y) xs r → r ≡ is_rising xs
rising-answer xs true h = sym (rising-from xs h)
rising-answer xs false h = elim (cases_Bool (is_rising xs)) [
  | inl t ↦ let up = rising-at xs t h.0 (h.0 + 1) (pos 0) (omega arith) h.1 in let down = h.2 (pos 0) in absurd cc
  | inr f ↦ sym f
]

-- edges that a number does not reach come after those that it does
pub rising-parted : (xs : List ℤ) → is_rising xs ≡ true → (z : ℤ) → IsPartitionedBy (λ edge. int_le edge z) xs
rising-parted xs h z = λ i j d k l reached. elim (cases_lt i j) [
  | inl m ↦ at-most-through (get_or xs i d) (get_or xs j d) z (rising-at xs h i j d m l) reached
  | inr m ↦ let same : j ≡ i = omega arith in subst (λ (n : ℕ). int_le (get_or xs n d) z ≡ true) same reached
]

-- where a test holds of the elements before a place and of none from there on, the place is how many pass
pub count-parted : {X : Type 0} (p : X → Bool) (xs : List X) (i : ℕ) → i ≤ length xs → AllWithin (λ y. p y ≡ true) xs 0 i → AllWithin (λ y. p y ≡ false) xs i (length xs) → i ≡ count_by p xs
count-parted p [] i h passing failing = omega arith
count-parted p (x ∷ xs) zero h passing failing =
    let here : p x ≡ false = failing 0 x (omega arith) (omega arith) in
    let rest = count-parted p xs 0 (omega arith) (λ k d a b. absurd (omega arith)) (λ k d a b. rw add-one at (failing (k + 1) d (omega arith) (omega arith))) in
    rw (sum_by-cons (λ y. cond (p y) 1 0) x xs, here) (omega arith)
count-parted p (x ∷ xs) (suc i) h passing failing =
    let here : p x ≡ true = passing 0 x (omega arith) (omega arith) in
    let rest = count-parted p xs i (omega arith) (λ k d a b. rw add-one at (passing (k + 1) d (omega arith) (omega arith))) (λ k d a b. rw add-one at (failing (k + 1) d (omega arith) (omega arith))) in
    rw (sum_by-cons (λ y. cond (p y) 1 0) x xs, here) (omega arith)
