-- How often each element stands in a list, and what is left of a list after the elements of another are taken out of it.
use Rattle.std.proofs.Common.{◌≡◌, ℕ, ◌+◌, ◌-◌, ◌≤◌, min, Bool, true, false, cond, ◌||◌, List, [], ◌∷◌, ◌++◌, length, refl, sym, ◌∙◌, ap, subst, inl, inr, arith}
use Rattle.std.specs.Prelude.{sum_by, Decides}
use Rattle.std.specs.List.{list_any}
use Rattle.std.specs.List.Sorted.{IsPermutation}
use Rattle.std.proofs.lemmas.Bool.{cases_Bool}
use Rattle.std.proofs.lemmas.List.Sums.{sum_by-cons, sum_by-append, sum_by-le, sum_by-le-sum_by}
use Rattle.std.proofs.lemmas.List.Sorted.{IsPermutation-refl, IsPermutation-cons, IsPermutation-sym, IsPermutation-trans, IsPermutation-middle, sum_by-IsPermutation}
use Rattle.dp_domain.specs.Distance.{occurrences, distinct}

abbrev pub one : Bool → ℕ
one b = cond b 1 0

-- the list without the first element that is the same as y
abbrev pub take_out : {E : Type 0} → (E → E → Bool) → E → List E → List E
take_out same y [] = []
take_out same y (x ∷ xs) = cond (same y x) xs (x ∷ take_out same y xs)

-- what is left of a list after each element of another took out one that is the same
abbrev pub left_over : {E : Type 0} → (E → E → Bool) → List E → List E → List E
left_over same xs [] = xs
left_over same xs (y ∷ ys) = left_over same (take_out same y xs) ys

pub occurrences-cons : {E : Type 0} (same : E → E → Bool) (x : E) (xs : List E) (e : E) → occurrences same (x ∷ xs) e ≡ one (same e x) + occurrences same xs e
occurrences-cons same x xs e = sum_by-cons (λ y. cond (same e y) 1 0) x xs

pub occurrences-append : {E : Type 0} (same : E → E → Bool) (xs ys : List E) (e : E) → occurrences same (xs ++ ys) e ≡ occurrences same xs e + occurrences same ys e
occurrences-append same xs ys e = sum_by-append (λ y. cond (same e y) 1 0) xs ys

pub occurrences-permutation : {E : Type 0} (same : E → E → Bool) (xs ys : List E) (e : E) → IsPermutation xs ys → occurrences same ys e ≡ occurrences same xs e
occurrences-permutation same xs ys e h = sum_by-IsPermutation (λ y. cond (same e y) 1 0) xs ys h

one-le : (b : Bool) → one b ≤ 1
one-le true = omega arith
one-le false = omega arith

pub sum_by-same : {X : Type 0} (f g : X → ℕ) (xs : List X) → ((x : X) → f x ≡ g x) → sum_by f xs ≡ sum_by g xs
sum_by-same f g xs h = λ i. sum_by (λ x. h x i) xs

pub sum_by-add : {X : Type 0} (f g : X → ℕ) (xs : List X) → sum_by (λ x. f x + g x) xs ≡ sum_by f xs + sum_by g xs
sum_by-add f g [] = refl
sum_by-add f g (x ∷ xs) =
    let whole = sum_by-cons (λ y. f y + g y) x xs in
    let left = sum_by-cons f x xs in
    let right = sum_by-cons g x xs in
    let ih = sum_by-add f g xs in
    omega arith

pub sum_by-zero : {X : Type 0} (xs : List X) → sum_by (λ (x : X). 0) xs ≡ 0
sum_by-zero [] = refl
sum_by-zero {X} (x ∷ xs) = let whole = sum_by-cons (λ (y : X). 0) x xs in let ih = sum_by-zero xs in omega arith

one-or : (a b : Bool) (n : ℕ) → one b ≡ min 1 n → one (a || b) ≡ min 1 (one a + n)
one-or true b n h = omega arith
one-or false b n h = omega arith

module _ {E : Type 0} (same : E → E → Bool) (told : (x y : E) → Decides (same x y) (x ≡ y)) where
  pub same-symmetric : (x y : E) → same x y ≡ same y x
  same-symmetric x y = elim (cases_Bool (same x y)) [
    | inl h ↦ h ∙ sym ((told y x).1 (sym ((told x y).0 h)))
    | inr h ↦ elim (cases_Bool (same y x)) [
      | inl k ↦ (told x y).1 (sym ((told y x).0 k)) ∙ sym k
      | inr k ↦ h ∙ sym k
    ]
  ]

  occurrences-itself : (x : E) (xs : List E) → occurrences same (x ∷ xs) x ≡ 1 + occurrences same xs x
  occurrences-itself x xs = occurrences-cons same x xs x ∙ ap (λ b. one b + occurrences same xs x) ((told x x).1 refl)

  same-at : (e y x : E) → same y x ≡ true → same e x ≡ same e y
  same-at e y x h = ap (same e) (sym ((told y x).0 h))

  same-apart : (e y x : E) → same y x ≡ false → one (same e x) + one (same e y) ≤ 1
  same-apart e y x h = elim (cases_Bool (same e x)) [
    | inr k ↦ rw k (omega (arith, one-le (same e y)))
    | inl k ↦ elim (cases_Bool (same e y)) [
      | inr l ↦ rw (k, l) (omega arith)
      | inl l ↦ let m = (told y x).1 (sym ((told e y).0 l) ∙ (told e x).0 k) in absurd cc
    ]
  ]

  take_out-step : (e y x : E) (xs : List E) (found : Bool) → same y x ≡ found →
      occurrences same (take_out same y xs) e ≡ occurrences same xs e - one (same e y) →
      occurrences same (cond found xs (x ∷ take_out same y xs)) e ≡ occurrences same (x ∷ xs) e - one (same e y)
  take_out-step e y x xs true h ih = let c = occurrences-cons same x xs e in let s = same-at e y x h in rw (c, s) (omega arith)
  take_out-step e y x xs false h ih = let c = occurrences-cons same x xs e in let d = occurrences-cons same x (take_out same y xs) e in let s = same-apart e y x h in
      rw (c, d, ih) (omega arith)

  pub occurrences-take_out : (y : E) (xs : List E) (e : E) → occurrences same (take_out same y xs) e ≡ occurrences same xs e - one (same e y)
  occurrences-take_out y [] e = omega arith
  occurrences-take_out y (x ∷ xs) e = take_out-step e y x xs (same y x) refl (occurrences-take_out y xs e)

  pub occurrences-left_over : (xs ys : List E) (e : E) → occurrences same (left_over same xs ys) e ≡ occurrences same xs e - occurrences same ys e
  occurrences-left_over xs [] e = omega arith
  occurrences-left_over xs (y ∷ ys) e =
      let ih = occurrences-left_over (take_out same y xs) ys e in
      let t = occurrences-take_out y xs e in
      let c = occurrences-cons same y ys e in
      rw (ih, t, c) (omega arith)

  -- counting the members of one list in another, either way round
  pub sum_by-occurrences : (xs keys : List E) → sum_by (occurrences same xs) keys ≡ sum_by (occurrences same keys) xs
  sum_by-occurrences [] keys = sum_by-zero keys
  sum_by-occurrences (x ∷ xs) keys =
      let split = sum_by-same (occurrences same (x ∷ xs)) (λ e. one (same e x) + occurrences same xs e) keys (occurrences-cons same x xs) in
      let parts = sum_by-add (λ e. one (same e x)) (occurrences same xs) keys in
      let turned = sum_by-same (λ e. one (same e x)) (λ e. one (same x e)) keys (λ e. ap one (same-symmetric e x)) in
      let ih = sum_by-occurrences xs keys in
      let whole = sum_by-cons (occurrences same keys) x xs in
      omega arith

  -- keys without repeats count each place of a list at most once
  pub cover-le : (xs keys : List E) → ((e : E) → occurrences same keys e ≤ 1) → sum_by (occurrences same xs) keys ≤ length xs
  cover-le xs keys once =
      let turned = sum_by-occurrences xs keys in
      let bound = sum_by-le (occurrences same keys) 1 xs (λ k d h. once _) in
      omega arith

  cover-places : (xs keys : List E) → ((e : E) → 1 ≤ occurrences same xs e → occurrences same keys e ≡ 1) → sum_by (occurrences same keys) xs ≡ length xs
  cover-places [] keys h = refl
  cover-places (x ∷ xs) keys h =
      let here : 1 ≤ occurrences same (x ∷ xs) x = rw (occurrences-itself x xs) (omega arith) in
      let head = h x here in
      let tail = cover-places xs keys (λ e k. h e (rw (occurrences-cons same x xs e) (omega arith))) in
      let whole = sum_by-cons (occurrences same keys) x xs in
      omega arith

  -- .. and exactly once, where each member of the list is a key
  pub cover : (xs keys : List E) → ((e : E) → 1 ≤ occurrences same xs e → occurrences same keys e ≡ 1) → sum_by (occurrences same xs) keys ≡ length xs
  cover xs keys h = sum_by-occurrences xs keys ∙ cover-places xs keys h

  any-occurrences : (x : E) (xs : List E) → one (list_any (same x) xs) ≡ min 1 (occurrences same xs x)
  any-occurrences x [] = omega arith
  any-occurrences x (y ∷ xs) = rw (occurrences-cons same y xs x) (one-or (same x y) (list_any (same x) xs) _ (any-occurrences x xs))

  distinct-step : (x : E) (xs : List E) (e : E) (found : Bool) → one found ≡ min 1 (occurrences same xs x) →
      occurrences same (distinct same xs) e ≡ min 1 (occurrences same xs e) →
      occurrences same (cond found (distinct same xs) (x ∷ distinct same xs)) e ≡ min 1 (one (same e x) + occurrences same xs e)
  distinct-step x xs e true h ih = elim (cases_Bool (same e x)) [
    | inl k ↦ let at : occurrences same xs e ≡ occurrences same xs x = ap (occurrences same xs) ((told e x).0 k) in rw (k, ih) (omega arith)
    | inr k ↦ rw (k, ih) (omega arith)
  ]
  distinct-step x xs e false h ih = let c = occurrences-cons same x (distinct same xs) e in elim (cases_Bool (same e x)) [
    | inl k ↦ let at : occurrences same xs e ≡ occurrences same xs x = ap (occurrences same xs) ((told e x).0 k) in rw (c, k, ih) (omega arith)
    | inr k ↦ rw (c, k, ih) (omega arith)
  ]

  -- each member once
  pub occurrences-distinct : (xs : List E) (e : E) → occurrences same (distinct same xs) e ≡ min 1 (occurrences same xs e)
  unfolding distinct
  occurrences-distinct [] e = omega arith
  occurrences-distinct (x ∷ xs) e =
      rw (occurrences-cons same x xs e) (distinct-step x xs e (list_any (same x) xs) (any-occurrences x xs) (occurrences-distinct xs e))

  -- the members of a list without repeats cover it
  distinct-cover : (xs : List E) → sum_by (occurrences same xs) (distinct same xs) ≡ length xs
  distinct-cover xs = cover xs (distinct same xs) (λ e h. let d = occurrences-distinct xs e in omega arith)

  -- a list that has each element no more often than another is no longer
  pub length-le : (xs ys : List E) → ((e : E) → occurrences same xs e ≤ occurrences same ys e) → length xs ≤ length ys
  length-le xs ys h =
      let left = distinct-cover xs in
      let between = sum_by-le-sum_by (occurrences same xs) (occurrences same ys) (distinct same xs) h in
      let right = cover-le ys (distinct same xs) (λ e. let d = occurrences-distinct xs e in omega arith) in
      omega arith

  -- lists that have each element equally often are as long
  pub length-same : (xs ys : List E) → ((e : E) → occurrences same xs e ≡ occurrences same ys e) → length xs ≡ length ys
  length-same xs ys h =
      let one_way = length-le xs ys (λ e. omega (arith, h e)) in
      let other_way = length-le ys xs (λ e. omega (arith, h e)) in
      omega arith

  take_out-front-step : (x y : E) (ys : List E) (found : Bool) → same x y ≡ found → 1 ≤ one found + occurrences same ys x →
      (1 ≤ occurrences same ys x → IsPermutation ys (x ∷ take_out same x ys)) → IsPermutation (y ∷ ys) (x ∷ cond found ys (y ∷ take_out same x ys))
  take_out-front-step x y ys true e h ih = subst (λ z. IsPermutation (y ∷ ys) (z ∷ ys)) (sym ((told x y).0 e)) (IsPermutation-refl (y ∷ ys))
  take_out-front-step x y ys false e h ih =
      IsPermutation-trans _ _ _ (IsPermutation-cons y ys (x ∷ take_out same x ys) (ih (omega arith))) (IsPermutation-middle (y ∷ []) x (take_out same x ys))

  -- a member may be moved to the front
  pub take_out-front : (x : E) (ys : List E) → 1 ≤ occurrences same ys x → IsPermutation ys (x ∷ take_out same x ys)
  take_out-front x [] h = absurd (omega arith)
  take_out-front x (y ∷ ys) h = take_out-front-step x y ys (same x y) refl (rw (occurrences-cons same y ys x) at h) (take_out-front x ys)

  -- lists that have each element equally often are the same in another order
  pub permutation-from : (xs ys : List E) → ((e : E) → occurrences same xs e ≡ occurrences same ys e) → IsPermutation xs ys
  permutation-from [] [] h = IsPermutation-refl []
  permutation-from [] (y ∷ ys) h =
      let a = h y in
      let c = occurrences-itself y ys in
      absurd (omega arith)
  permutation-from (x ∷ xs) ys h =
      let a = h x in
      let c = occurrences-itself x xs in
      let front = take_out-front x ys (omega arith) in
      let rest = permutation-from xs (take_out same x ys) (λ e. let t = occurrences-take_out x ys e in let d = occurrences-cons same x xs e in omega (arith, h e)) in
      IsPermutation-trans _ _ _ (IsPermutation-cons x xs (take_out same x ys) rest) (IsPermutation-sym _ _ front)
