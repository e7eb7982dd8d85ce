-- Numbers in rising order: a list has one rising order, whatever order it is in.
use Rattle.std.proofs.Common.{◌≡◌, ◌+◌, ◌≤◌, ℤ, ◌≤ℤ◌, Bool, true, false, cond, List, [], ◌∷◌, ◌++◌, length, refl, sym, ◌∙◌, ap, subst, add-one, arith, Less, Greater, Equal}
use Rattle.std.specs.Prelude.{int_le, int_lt, All}
use Rattle.std.specs.Ordering.{int_eq, int_cmp, is_lt}
use Rattle.std.specs.List.Sorted.{IsPermutation, IsSorted}
use Rattle.std.proofs.lemmas.Int.{ints}
use Rattle.std.proofs.lemmas.List.Elements.{All-nil, All-cons, All-head, All-tail}
use Rattle.std.proofs.lemmas.List.Sorted.{length_permutation, IsPermutation-refl, IsPermutation-sym, IsPermutation-cons, IsPermutation-trans, IsPermutation-middle}
use Rattle.dp_domain.specs.Distance.{occurrences}
use Rattle.dp_domain.proofs.Equality.{int_eq-decides}
use Rattle.dp_domain.proofs.Occurrences.{one, occurrences-cons, occurrences-permutation}
use Rattle.dp_aggregate.specs.Resize.{put_in, in_order}
use Rattle.dp_aggregate.specs.ResizeLaw.{Rises}

-- the place at which a number is put
pub record PutAt (z : ℤ) (xs : List ℤ) : Type 0 where
  pub before : List ℤ
  pub after : List ℤ
  pub was : xs ≡ before ++ after
  pub is : put_in z xs ≡ before ++ z ∷ after

put-at-step : (z x : ℤ) (xs : List ℤ) (b : Bool) → int_le z x ≡ b → PutAt z xs → PutAt z (x ∷ xs)
put-at-step z x xs true e p = record { before = []; after = x ∷ xs; was = refl; is = rw e refl }
put-at-step z x xs false e p = record { before = x ∷ p.before; after = p.after; was = ap (λ (l : List ℤ). x ∷ l) p.was; is = rw e (ap (λ (l : List ℤ). x ∷ l) p.is) }

pub put-at : (z : ℤ) (xs : List ℤ) → PutAt z xs
put-at z [] = record { before = []; after = []; was = refl; is = refl }
put-at z (x ∷ xs) = put-at-step z x xs (int_le z x) refl (put-at z xs)

put-permutes : (z : ℤ) (xs : List ℤ) → IsPermutation (put_in z xs) (z ∷ xs)
put-permutes z xs =
    let p = put-at z xs in
    rw (p.is) (subst (λ (l : List ℤ). IsPermutation (p.before ++ z ∷ p.after) (z ∷ l)) (sym p.was) (IsPermutation-middle p.before z p.after))

-- the rising order is an order of the list
pub in_order-permutes : (xs : List ℤ) → IsPermutation xs (in_order xs)
unfolding in_order
in_order-permutes [] = IsPermutation-refl []
in_order-permutes (x ∷ xs) =
    IsPermutation-trans _ _ _ (IsPermutation-cons x xs (in_order xs) (in_order-permutes xs)) (IsPermutation-sym _ _ (put-permutes x (in_order xs)))

pub length-in_order : (xs : List ℤ) → length (in_order xs) ≡ length xs
length-in_order xs = length_permutation xs (in_order xs) (in_order-permutes xs)

all-above : (z x : ℤ) (xs : List ℤ) → z ≤ℤ x → All (λ y. x ≤ℤ y) xs → All (λ y. z ≤ℤ y) xs
all-above z x xs h above = λ k d l. let a = above k d l in omega (arith, ints)

All-put-step : (P : ℤ → Type 0) (z x : ℤ) (xs : List ℤ) (b : Bool) → P z → All P (x ∷ xs) → All P (put_in z xs) → All P (cond b (z ∷ x ∷ xs) (x ∷ put_in z xs))
All-put-step P z x xs true h all rest = All-cons P z (x ∷ xs) h all
All-put-step P z x xs false h all rest = All-cons P x (put_in z xs) (All-head P x xs all) rest

All-put : (P : ℤ → Type 0) (z : ℤ) (xs : List ℤ) → P z → All P xs → All P (put_in z xs)
All-put P z [] h all = All-cons P z [] h all
All-put P z (x ∷ xs) h all = All-put-step P z x xs (int_le z x) h all (All-put P z xs h (All-tail P x xs all))

at-most : (z x : ℤ) → int_le z x ≡ true → z ≤ℤ x
at-most z x h = grind (arith, ints)

less : (z x : ℤ) → int_le z x ≡ false → x ≤ℤ z
less z x h = grind (arith, ints)

put-rises-step : (z x : ℤ) (xs : List ℤ) (b : Bool) → int_le z x ≡ b → Rises (x ∷ xs) → Rises (put_in z xs) → Rises (cond b (z ∷ x ∷ xs) (x ∷ put_in z xs))
put-rises-step z x xs true e rises rest = (All-cons (λ y. z ≤ℤ y) x xs (at-most z x e) (all-above z x xs (at-most z x e) rises.0), rises)
put-rises-step z x xs false e rises rest = (All-put (λ y. x ≤ℤ y) z xs (less z x e) rises.0, rest)

put-rises : (z : ℤ) (xs : List ℤ) → Rises xs → Rises (put_in z xs)
put-rises z [] rises = (All-nil (λ y. z ≤ℤ y), tt)
put-rises z (x ∷ xs) rises = put-rises-step z x xs (int_le z x) refl rises (put-rises z xs rises.1)

pub in_order-rises : (xs : List ℤ) → Rises (in_order xs)
unfolding in_order
in_order-rises [] = tt
in_order-rises (x ∷ xs) = put-rises x (in_order xs) (in_order-rises xs)

here : (x : ℤ) (xs : List ℤ) → 1 ≤ occurrences int_eq (x ∷ xs) x
here x xs = let c = occurrences-cons int_eq x xs x in let e : one (int_eq x x) ≡ 1 = ap one ((int_eq-decides x x).1 refl) in omega arith

member-step : (P : ℤ → Type 0) (x : ℤ) (xs : List ℤ) (z : ℤ) (b : Bool) → int_eq z x ≡ b → P x → (1 ≤ occurrences int_eq xs z → P z) → 1 ≤ one b + occurrences int_eq xs z → P z
member-step P x xs z true e head tail h = subst P (sym ((int_eq-decides z x).0 e)) head
member-step P x xs z false e head tail h = tail (omega arith)

-- what holds of each element holds of a member
member : (P : ℤ → Type 0) (xs : List ℤ) (z : ℤ) → All P xs → 1 ≤ occurrences int_eq xs z → P z
member P [] z all h = absurd (omega arith)
member P (x ∷ xs) z all h = member-step P x xs z (int_eq z x) refl (All-head P x xs all) (member P xs z (All-tail P x xs all)) (rw (occurrences-cons int_eq x xs z) at h)

first-least : (x : ℤ) (xs : List ℤ) (z : ℤ) → Rises (x ∷ xs) → 1 ≤ occurrences int_eq (x ∷ xs) z → x ≤ℤ z
first-least x xs z rises h = member (λ y. x ≤ℤ y) (x ∷ xs) z (All-cons (λ y. x ≤ℤ y) x xs (omega (arith, ints)) rises.0) h

equal-heads : (x y : ℤ) → x ≤ℤ y → y ≤ℤ x → x ≡ y
equal-heads x y h k = omega (arith, ints)

-- rising lists that have each number equally often are equal
rises-once : (xs ys : List ℤ) → Rises xs → Rises ys → ((e : ℤ) → occurrences int_eq xs e ≡ occurrences int_eq ys e) → xs ≡ ys
rises-once [] [] h k often = refl
rises-once [] (y ∷ ys) h k often = let a = here y ys in let b = often y in absurd (omega arith)
rises-once (x ∷ xs) [] h k often = let a = here x xs in let b = often x in absurd (omega arith)
rises-once (x ∷ xs) (y ∷ ys) h k often =
    let in_right : 1 ≤ occurrences int_eq (y ∷ ys) x = let a = here x xs in let b = often x in omega arith in
    let in_left : 1 ≤ occurrences int_eq (x ∷ xs) y = let a = here y ys in let b = often y in omega arith in
    let heads = equal-heads x y (first-least x xs y h in_left) (first-least y ys x k in_right) in
    let tails = rises-once xs ys h.1 k.1 (λ e.
    let a = often e in
    let b = occurrences-cons int_eq x xs e in
    let c = occurrences-cons int_eq y ys e in
    let d : one (int_eq e x) ≡ one (int_eq e y) = ap (λ (z : ℤ). one (int_eq e z)) heads in
    omega arith) in
    ap (λ (z : ℤ). z ∷ xs) heads ∙ ap (λ (l : List ℤ). y ∷ l) tails

-- .. so order plays no part
pub in_order-same : (xs ys : List ℤ) → IsPermutation xs ys → in_order xs ≡ in_order ys
in_order-same xs ys h =
    rises-once (in_order xs) (in_order ys) (in_order-rises xs) (in_order-rises ys) (λ e.
    occurrences-permutation int_eq xs (in_order xs) e (in_order-permutes xs)
    ∙ sym (occurrences-permutation int_eq xs ys e h)
    ∙ sym (occurrences-permutation int_eq ys (in_order ys) e (in_order-permutes ys)))

not-less-by : (x y : ℤ) (b : Bool) → int_lt y x ≡ b → is_lt (cond b Less (cond (int_lt x y) Greater Equal)) ≡ false → x ≤ℤ y
not-less-by x y true e h = absurd cc
not-less-by x y false e h = grind (arith, ints)

not-less : (x y : ℤ) → is_lt (int_cmp y x) ≡ false → x ≤ℤ y
not-less x y h = not-less-by x y (int_lt y x) refl h

sorted-tail : (x : ℤ) (xs : List ℤ) → IsSorted int_cmp (x ∷ xs) → IsSorted int_cmp xs
sorted-tail x xs h = λ k d l m. rw add-one (rw (add-one, add-one) at (h (k + 1) d (omega arith) (omega arith)))

sorted-rises : (xs : List ℤ) → IsSorted int_cmp xs → Rises xs
sorted-rises [] h = tt
sorted-rises (x ∷ []) h = (All-nil (λ y. x ≤ℤ y), tt)
sorted-rises (x ∷ y ∷ ys) h =
    let rest = sorted-rises (y ∷ ys) (sorted-tail x (y ∷ ys) h) in
    let first = not-less x y (h 0 x (omega arith) (omega arith)) in
    (All-cons (λ z. x ≤ℤ z) y ys first (all-above x y ys first rest.0), rest)

-- a sort gives the rising order
pub sorted-in_order : (xs ys : List ℤ) → IsPermutation xs ys → IsSorted int_cmp ys → ys ≡ in_order xs
sorted-in_order xs ys h sorted =
    rises-once ys (in_order xs) (sorted-rises ys sorted) (in_order-rises xs) (λ e.
    occurrences-permutation int_eq xs ys e h ∙ sym (occurrences-permutation int_eq xs (in_order xs) e (in_order-permutes xs)))
