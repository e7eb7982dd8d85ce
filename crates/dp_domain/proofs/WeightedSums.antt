-- How far apart the sums of weights over two lists are.
use Rattle.std.proofs.Common.{◌≡◌, ℕ, ◌+◌, ◌*◌, ◌≤◌, max, Bool, ℤ, pos, negsuc, ◌+ℤ◌, ◌-ℤ◌, List, [], ◌∷◌, ◌++◌, length, length-append, sym, ◌∙◌, ap, fold, arith}
use Rattle.std.specs.Prelude.{sum_by, All, Decides, nat_abs}
use Rattle.std.specs.List.Sorted.{IsPermutation}
use Rattle.std.proofs.Math.Nat.{mul-le-mul_right, add-mul, suc-mul, add_comm}
use Rattle.std.proofs.lemmas.Int.{ints}
use Rattle.std.proofs.lemmas.List.Sums.{sum_by-cons, sum_by-append, sum_by-le}
use Rattle.std.proofs.lemmas.List.Sorted.{length_permutation, sum_by-IsPermutation, All-permutation}
use Rattle.std.proofs.lemmas.List.Elements.{All-head, All-tail}
use borrow.Author.Differences.{up, down}
use Rattle.dp_domain.specs.Distance.{diff}
use Rattle.dp_domain.specs.Domains.{IsBetween}
use Rattle.dp_domain.specs.Sums.{int_sum_by}
use Rattle.dp_domain.proofs.Distance.{split, split-distance}

-- a sum by the sums of its positive and of its negative parts
fold-parts : {E : Type 0} (weight : E → ℤ) (start : ℤ) (xs : List E) → let total = fold (λ sum x. sum +ℤ weight x) start xs in
    up total + down start + sum_by (λ x. down (weight x)) xs ≡ down total + up start + sum_by (λ x. up (weight x)) xs
fold-parts weight start [] = omega arith
fold-parts weight start (x ∷ xs) =
    let ih = fold-parts weight (start +ℤ weight x) xs in
    let ups = sum_by-cons (λ y. up (weight y)) x xs in
    let downs = sum_by-cons (λ y. down (weight y)) x xs in
    let step : up (start +ℤ weight x) + down start + down (weight x) ≡ down (start +ℤ weight x) + up start + up (weight x) = omega (arith, ints) in
    omega arith

sum-parts : {E : Type 0} (weight : E → ℤ) (xs : List E) → up (int_sum_by weight xs) + sum_by (λ x. down (weight x)) xs ≡ down (int_sum_by weight xs) + sum_by (λ x. up (weight x)) xs
sum-parts weight xs = let h = fold-parts weight (pos 0) xs in omega arith

All-end : {E : Type 0} (P : E → Type 0) (common left : List E) → All P (common ++ left) → All P left
All-end P [] left h = h
All-end P (x ∷ common) left h = All-end P common left (All-tail P x (common ++ left) h)

-- what holds of each element of a list holds of what is left of it
All-left : {E : Type 0} (P : E → Type 0) (xs common left : List E) → IsPermutation xs (common ++ left) → All P xs → All P left
All-left P xs common left p h = All-end P common left (All-permutation P _ _ p h)

total-split : {E : Type 0} (f : E → ℕ) (xs common left : List E) → IsPermutation xs (common ++ left) → sum_by f xs ≡ sum_by f common + sum_by f left
total-split f xs common left p = let a = sum_by-IsPermutation f xs (common ++ left) p in let b = sum_by-append f common left in omega arith

up-le : (lo hi z : ℤ) → IsBetween lo hi z → up z ≤ max (nat_abs lo) (nat_abs hi)
up-le lo hi (pos n) h = omega (arith, ints)
up-le lo hi (negsuc n) h = omega arith

down-le : (lo hi z : ℤ) → IsBetween lo hi z → down z ≤ max (nat_abs lo) (nat_abs hi)
down-le lo hi (pos n) h = omega arith
down-le lo hi (negsuc n) h = omega (arith, ints)

ups-le : {E : Type 0} (weight : E → ℤ) (lo hi : ℤ) (xs : List E) → All (λ x. IsBetween lo hi (weight x)) xs → sum_by (λ x. up (weight x)) xs ≤ length xs * max (nat_abs lo) (nat_abs hi)
ups-le weight lo hi xs h = sum_by-le (λ x. up (weight x)) (max (nat_abs lo) (nat_abs hi)) xs (λ k d b. up-le lo hi _ (h k d b))

downs-le : {E : Type 0} (weight : E → ℤ) (lo hi : ℤ) (xs : List E) → All (λ x. IsBetween lo hi (weight x)) xs → sum_by (λ x. down (weight x)) xs ≤ length xs * max (nat_abs lo) (nat_abs hi)
downs-le weight lo hi xs h = sum_by-le (λ x. down (weight x)) (max (nat_abs lo) (nat_abs hi)) xs (λ k d b. down-le lo hi _ (h k d b))

gap-le : (a b : ℤ) (n ua da ub db uc dc ul dl ur dr : ℕ) → up a + da ≡ down a + ua → up b + db ≡ down b + ub →
    ua ≡ uc + ul → da ≡ dc + dl → ub ≡ uc + ur → db ≡ dc + dr → ul + dr ≤ n → dl + ur ≤ n → nat_abs (a -ℤ b) ≤ n
gap-le a b n ua da ub db uc dc ul dl ur dr p q r s t u v w = omega (arith, ints)

-- how far a number lies above lo
above : ℤ → ℤ → ℕ
above lo z = nat_abs (z -ℤ lo)

above-is : (lo hi z : ℤ) → IsBetween lo hi z → up z + down lo ≡ down z + up lo + above lo z
unfolding above
above-is lo hi z h = omega (arith, ints)

above-le : (lo hi z : ℤ) → IsBetween lo hi z → above lo z ≤ nat_abs (hi -ℤ lo)
unfolding above
above-le lo hi z h = omega (arith, ints)

-- a sum, counted from lo at each element
aboves : {E : Type 0} (weight : E → ℤ) (lo hi : ℤ) (xs : List E) → All (λ x. IsBetween lo hi (weight x)) xs →
    sum_by (λ x. up (weight x)) xs + length xs * down lo ≡ sum_by (λ x. down (weight x)) xs + length xs * up lo + sum_by (λ x. above lo (weight x)) xs
aboves weight lo hi [] h = omega arith
aboves weight lo hi (x ∷ xs) h =
    let ups = sum_by-cons (λ y. up (weight y)) x xs in
    let downs = sum_by-cons (λ y. down (weight y)) x xs in
    let rest = sum_by-cons (λ y. above lo (weight y)) x xs in
    let ih = aboves weight lo hi xs (All-tail (λ y. IsBetween lo hi (weight y)) x xs h) in
    let here = above-is lo hi (weight x) (All-head (λ y. IsBetween lo hi (weight y)) x xs h) in
    let more : (n : ℕ) → length (x ∷ xs) * n ≡ n + length xs * n = λ n. suc-mul (length xs) n ∙ add_comm (length xs * n) n in
    let by_down = more (down lo) in
    let by_up = more (up lo) in
    omega arith

aboves-le : {E : Type 0} (weight : E → ℤ) (lo hi : ℤ) (xs : List E) → All (λ x. IsBetween lo hi (weight x)) xs → sum_by (λ x. above lo (weight x)) xs ≤ length xs * nat_abs (hi -ℤ lo)
aboves-le weight lo hi xs h = sum_by-le (λ x. above lo (weight x)) (nat_abs (hi -ℤ lo)) xs (λ k d b. above-le lo hi _ (h k d b))

even-gap-le : (a b : ℤ) (n ua da ub db down_lo up_lo va vb vc vl vr : ℕ) → up a + da ≡ down a + ua → up b + db ≡ down b + ub →
    ua + down_lo ≡ da + up_lo + va → ub + down_lo ≡ db + up_lo + vb → va ≡ vc + vl → vb ≡ vc + vr → vl ≤ n → vr ≤ n → nat_abs (a -ℤ b) ≤ n
even-gap-le a b n ua da ub db down_lo up_lo va vb vc vl vr p q r s t u v w = omega (arith, ints)

module _ {E : Type 0} (same : E → E → Bool) (told : (x y : E) → Decides (same x y) (x ≡ y)) where
  -- weights from lo to hi: the sums are apart by at most the distance times the greatest absolute weight
  pub sums-apart : (weight : E → ℤ) (lo hi : ℤ) (xs ys : List E) → All (λ x. IsBetween lo hi (weight x)) xs → All (λ x. IsBetween lo hi (weight x)) ys →
      nat_abs (int_sum_by weight xs -ℤ int_sum_by weight ys) ≤ diff same xs ys * max (nat_abs lo) (nat_abs hi)
  sums-apart weight lo hi xs ys h k =
      let s = split same told xs ys in
      let P = λ (x : E). IsBetween lo hi (weight x) in
      let m = max (nat_abs lo) (nat_abs hi) in
      let U = λ (x : E). up (weight x) in
      let D = λ (x : E). down (weight x) in
      let l = All-left P xs s.common s.left s.one h in
      let r = All-left P ys s.common s.right s.other k in
      let ul = ups-le weight lo hi s.left l in
      let dl = downs-le weight lo hi s.left l in
      let ur = ups-le weight lo hi s.right r in
      let dr = downs-le weight lo hi s.right r in
      let e : diff same xs ys * m ≡ length s.left * m + length s.right * m = sym (ap (λ n. n * m) (split-distance same told xs ys)) ∙ add-mul (length s.left) (length s.right) m in
      gap-le (int_sum_by weight xs) (int_sum_by weight ys) (diff same xs ys * m)
      (sum_by U xs) (sum_by D xs) (sum_by U ys) (sum_by D ys) (sum_by U s.common) (sum_by D s.common) (sum_by U s.left) (sum_by D s.left) (sum_by U s.right) (sum_by D s.right)
      (sum-parts weight xs) (sum-parts weight ys)
      (total-split U xs s.common s.left s.one) (total-split D xs s.common s.left s.one) (total-split U ys s.common s.right s.other) (total-split D ys s.common s.right s.other)
      (rw e (omega arith)) (rw e (omega arith))

  -- weights from lo to hi over lists of one length that differ at d places: the sums are apart by at most d times hi - lo
  pub even-sums-apart : (weight : E → ℤ) (lo hi : ℤ) (d : ℕ) (xs ys : List E) → All (λ x. IsBetween lo hi (weight x)) xs → All (λ x. IsBetween lo hi (weight x)) ys →
      length xs ≡ length ys → diff same xs ys ≤ 2 * d → nat_abs (int_sum_by weight xs -ℤ int_sum_by weight ys) ≤ d * nat_abs (hi -ℤ lo)
  even-sums-apart weight lo hi d xs ys h k even near =
      let s = split same told xs ys in
      let P = λ (x : E). IsBetween lo hi (weight x) in
      let U = λ (x : E). up (weight x) in
      let D = λ (x : E). down (weight x) in
      let V = λ (x : E). above lo (weight x) in
      let w = nat_abs (hi -ℤ lo) in
      let lx = length_permutation _ _ s.one in
      let ly = length_permutation _ _ s.other in
      let cl = length-append s.common s.left in
      let cr = length-append s.common s.right in
      let total = split-distance same told xs ys in
      let few_left : length s.left ≤ d = omega arith in
      let few_right : length s.right ≤ d = omega arith in
      let vl = aboves-le weight lo hi s.left (All-left P xs s.common s.left s.one h) in
      let vr = aboves-le weight lo hi s.right (All-left P ys s.common s.right s.other k) in
      let ml = mul-le-mul_right w few_left in
      let mr = mul-le-mul_right w few_right in
      let by_ys = aboves weight lo hi ys k in
      even-gap-le (int_sum_by weight xs) (int_sum_by weight ys) (d * w)
      (sum_by U xs) (sum_by D xs) (sum_by U ys) (sum_by D ys) (length xs * down lo) (length xs * up lo) (sum_by V xs) (sum_by V ys) (sum_by V s.common) (sum_by V s.left) (sum_by V s.right)
      (sum-parts weight xs) (sum-parts weight ys) (aboves weight lo hi xs h) (rw even by_ys)
      (total-split V xs s.common s.left s.one) (total-split V ys s.common s.right s.other) (omega arith) (omega arith)
