-- How far apart two vectors of numbers of occurrences are.
use Rattle.std.proofs.Common.{◌≡◌, ℕ, zero, suc, ◌+◌, ◌≤◌, ◌<◌, Bool, ℤ, pos, ◌-ℤ◌, List, [], ◌∷◌, map, refl, sym, ◌∙◌, ap, inl, inr, arith}
use Rattle.std.specs.Prelude.{sum_by, Decides, nat_abs, nat_eq, zip}
use Rattle.std.specs.List.{range_with_len}
use Rattle.std.proofs.lemmas.Bool.{cases_Bool}
use Rattle.std.proofs.lemmas.Bool.Decides.{Decides-eqb}
use Rattle.std.proofs.lemmas.Int.{ints}
use Rattle.std.proofs.lemmas.List.Sums.{sum_by-cons}
use Rattle.dp_domain.specs.Distance.{occurrences, apart, diff, l1}
use Rattle.dp_domain.proofs.Occurrences.{one, left_over, occurrences-cons, occurrences-left_over, sum_by-same, sum_by-add, cover-le}
use Rattle.dp_domain.proofs.Distance.{diff-left_over, diff-map}

-- the L1 distance of two vectors that are made cell by cell from one list
pub l1-map : {E : Type 0} (f g : E → ℤ) (keys : List E) → l1 (map f keys) (map g keys) ≡ sum_by (λ e. nat_abs (f e -ℤ g e)) keys
unfolding l1
l1-map f g [] = refl
l1-map f g (e ∷ keys) =
    sum_by-cons (λ p. nat_abs (p.0 -ℤ p.1)) (f e, g e) (zip (map f keys) (map g keys))
    ∙ ap (λ n. nat_abs (f e -ℤ g e) + n) (l1-map f g keys)
    ∙ sym (sum_by-cons (λ y. nat_abs (f y -ℤ g y)) e keys)

-- the absolute difference of two natural numbers
pub apart-pos : (a b : ℕ) → nat_abs (pos a -ℤ pos b) ≡ apart a b
apart-pos a b = omega (arith, ints)

-- numbers of occurrences at keys without repeats are apart by at most the distance of the lists
pub l1-occurrences : {E : Type 0} (same : E → E → Bool) (told : (x y : E) → Decides (same x y) (x ≡ y)) (keys : List E) → ((e : E) → occurrences same keys e ≤ 1) → (xs ys : List E) →
    l1 (map (λ e. pos (occurrences same xs e)) keys) (map (λ e. pos (occurrences same ys e)) keys) ≤ diff same xs ys
l1-occurrences {E} same told keys once xs ys =
    let left = left_over same xs ys in
    let right = left_over same ys xs in
    let f = occurrences same left in
    let g = occurrences same right in
    let cells = l1-map (λ e. pos (occurrences same xs e)) (λ e. pos (occurrences same ys e)) keys in
    let at : (e : E) → nat_abs (pos (occurrences same xs e) -ℤ pos (occurrences same ys e)) ≡ f e + g e = λ e. apart-pos (occurrences same xs e) (occurrences same ys e) ∙ rw (occurrences-left_over same told xs ys e, occurrences-left_over same told ys xs e) refl in
    let whole = sum_by-same (λ e. nat_abs (pos (occurrences same xs e) -ℤ pos (occurrences same ys e))) (λ e. f e + g e) keys at in
    let parts = sum_by-add f g keys in
    let by_left = cover-le same told left keys once in
    let by_right = cover-le same told right keys once in
    let total = diff-left_over same told xs ys in
    omega arith

absent : (a n e : ℕ) → e < a → occurrences nat_eq (range_with_len a n) e ≡ 0
absent a zero e h = refl
absent a (suc n) e h =
    let ih = absent (a + 1) n e (omega arith) in
    let here : one (nat_eq e a) ≡ 0 = elim (cases_Bool (nat_eq e a)) [ inl k ↦ absurd (omega (arith, (Decides-eqb e a).0 k)) | inr k ↦ rw k refl ] in
    let whole = occurrences-cons nat_eq a (range_with_len (a + 1) n) e in
    omega arith

-- the numbers from a on, n of them, are without repeats
pub range-once : (a n e : ℕ) → occurrences nat_eq (range_with_len a n) e ≤ 1
range-once a zero e = omega arith
range-once a (suc n) e =
    let whole = occurrences-cons nat_eq a (range_with_len (a + 1) n) e in
    elim (cases_Bool (nat_eq e a)) [
      | inl k ↦ let same = (Decides-eqb e a).0 k in let none = absent (a + 1) n e (omega arith) in let here : one (nat_eq e a) ≡ 1 = ap one k in omega arith
      | inr k ↦ let ih = range-once (a + 1) n e in let here : one (nat_eq e a) ≡ 0 = ap one k in omega arith
    ]

-- the histogram of the categories below n that a map gives: its cells are apart by at most the distance of the lists
pub l1-histogram : {E : Type 0} (same : E → E → Bool) (told : (x y : E) → Decides (same x y) (x ≡ y)) (n : ℕ) (f : E → ℕ) (xs ys : List E) →
    l1 (map (λ k. pos (occurrences nat_eq (map f xs) k)) (range_with_len 0 n)) (map (λ k. pos (occurrences nat_eq (map f ys) k)) (range_with_len 0 n)) ≤ diff same xs ys
l1-histogram same told n f xs ys =
    let cells = l1-occurrences nat_eq Decides-eqb (range_with_len 0 n) (range-once 0 n) (map f xs) (map f ys) in
    let mapped = diff-map same told nat_eq Decides-eqb f xs ys in
    omega arith
