-- The laws of the distance of two lists in any order, for every type of elements and every test that tells them apart.
use Rattle.std.proofs.Common.{◌≡◌, suc, ◌+◌, ◌≤◌, min, Bool, true, false, cond, List, [], ◌∷◌, ◌++◌, map, length, length-append, Option, Some, None, refl, sym, ◌∙◌, ap, arith}
use Rattle.std.specs.Prelude.{sum_by, filter, filter_map, Decides}
use Rattle.std.specs.List.{cons_option}
use Rattle.std.specs.List.Sorted.{IsPermutation}
use Rattle.std.proofs.lemmas.List.Sums.{sum_by-cons, sum_by-append, count_by-le-length}
use Rattle.std.proofs.lemmas.List.Sorted.{length_permutation, sum_by-IsPermutation}
use Rattle.dp_domain.specs.Distance.{occurrences, distinct, apart, diff, Split}
use Rattle.dp_domain.proofs.Occurrences.{left_over, occurrences-append, occurrences-permutation, occurrences-left_over, occurrences-distinct, sum_by-same, sum_by-add, cover, length-le, permutation-from}

occurrences-option : {E : Type 0} (same : E → E → Bool) (xs : List E) (e : E) (o : Option E) → occurrences same (cons_option o xs) e ≡ occurrences same (cons_option o []) e + occurrences same xs e
occurrences-option same xs e None = omega arith
occurrences-option same xs e (Some x) = occurrences-append same (x ∷ []) xs e

-- how often an element stands in what a map to at most one element gives is a total over the list
occurrences-filter_map : {E F : Type 0} (same : F → F → Bool) (f : E → Option F) (xs : List E) (e : F) →
    occurrences same (filter_map f xs) e ≡ sum_by (λ x. occurrences same (cons_option (f x) []) e) xs
occurrences-filter_map same f [] e = refl
occurrences-filter_map same f (x ∷ xs) e =
    let whole = sum_by-cons (λ y. occurrences same (cons_option (f y) []) e) x xs in
    let ih = occurrences-filter_map same f xs e in
    let here = occurrences-option same (filter_map f xs) e (f x) in
    omega arith

-- .. and it is that of the parts of a split
filter_map-parts : {E F : Type 0} (same : F → F → Bool) (f : E → Option F) (xs common left : List E) (e : F) → IsPermutation xs (common ++ left) →
    occurrences same (filter_map f xs) e ≡ occurrences same (filter_map f common) e + occurrences same (filter_map f left) e
filter_map-parts same f xs common left e h =
    let total = sum_by-IsPermutation (λ y. occurrences same (cons_option (f y) []) e) xs (common ++ left) h in
    let parts = sum_by-append (λ y. occurrences same (cons_option (f y) []) e) common left in
    let a = occurrences-filter_map same f xs e in
    let b = occurrences-filter_map same f common e in
    let c = occurrences-filter_map same f left e in
    omega arith

length-option : {F : Type 0} (o : Option F) (xs : List F) → length (cons_option o xs) ≤ suc (length xs)
length-option None xs = omega arith
length-option (Some x) xs = omega arith

length-filter_map : {E F : Type 0} (f : E → Option F) (xs : List E) → length (filter_map f xs) ≤ length xs
length-filter_map f [] = omega arith
length-filter_map f (x ∷ xs) = let here = length-option (f x) (filter_map f xs) in let ih = length-filter_map f xs in omega arith

module _ {E : Type 0} (same : E → E → Bool) (told : (x y : E) → Decides (same x y) (x ≡ y)) where
  -- the distance is the number of elements that are left of each list without those of the other
  pub diff-left_over : (xs ys : List E) → diff same xs ys ≡ length (left_over same xs ys) + length (left_over same ys xs)
  unfolding diff
  diff-left_over xs ys =
      let keys = distinct same (xs ++ ys) in
      let left = left_over same xs ys in
      let right = left_over same ys xs in
      let at : (e : E) → apart (occurrences same xs e) (occurrences same ys e) ≡ occurrences same left e + occurrences same right e = λ e. rw (occurrences-left_over same told xs ys e, occurrences-left_over same told ys xs e) refl in
      let whole = sum_by-same (λ e. apart (occurrences same xs e) (occurrences same ys e)) (λ e. occurrences same left e + occurrences same right e) keys at in
      let parts = sum_by-add (occurrences same left) (occurrences same right) keys in
      let covers_left = cover same told left keys (λ e h. let l = occurrences-left_over same told xs ys e in let d = occurrences-distinct same told (xs ++ ys) e in let a = occurrences-append same xs ys e in omega arith) in
      let covers_right = cover same told right keys (λ e h. let l = occurrences-left_over same told ys xs e in let d = occurrences-distinct same told (xs ++ ys) e in let a = occurrences-append same xs ys e in omega arith) in
      omega arith

  pub diff-symmetric : (xs ys : List E) → diff same xs ys ≡ diff same ys xs
  diff-symmetric xs ys = let one_way = diff-left_over xs ys in let other_way = diff-left_over ys xs in omega arith

  left_over-triangle : (xs ys zs : List E) → length (left_over same xs zs) ≤ length (left_over same xs ys) + length (left_over same ys zs)
  left_over-triangle xs ys zs =
      let joined = left_over same xs ys ++ left_over same ys zs in
      let bound = length-le same told (left_over same xs zs) joined (λ e.
      let a = occurrences-left_over same told xs zs e in
      let b = occurrences-left_over same told xs ys e in
      let c = occurrences-left_over same told ys zs e in
      let d = occurrences-append same (left_over same xs ys) (left_over same ys zs) e in
      omega arith) in
      rw (← length-append (left_over same xs ys) (left_over same ys zs)) bound

  pub diff-triangle : (xs ys zs : List E) → diff same xs zs ≤ diff same xs ys + diff same ys zs
  diff-triangle xs ys zs =
      let whole = diff-left_over xs zs in
      let first = diff-left_over xs ys in
      let second = diff-left_over ys zs in
      let forth = left_over-triangle xs ys zs in
      let back = left_over-triangle zs ys xs in
      omega arith

  -- lists that are the same in another order have distance 0
  pub diff-order : (xs ys : List E) → IsPermutation xs ys → diff same xs ys ≡ 0
  diff-order xs ys h =
      let forth = length-le same told (left_over same xs ys) [] (λ e. let l = occurrences-left_over same told xs ys e in let p = occurrences-permutation same xs ys e h in omega arith) in
      let back = length-le same told (left_over same ys xs) [] (λ e. let l = occurrences-left_over same told ys xs e in let p = occurrences-permutation same xs ys e h in omega arith) in
      let whole = diff-left_over xs ys in
      omega arith

  -- .. and only those have
  pub diff-none : (xs ys : List E) → diff same xs ys ≡ 0 → IsPermutation xs ys
  diff-none xs ys h =
      let whole = diff-left_over xs ys in
      permutation-from same told xs ys (λ e.
      let l = occurrences-left_over same told xs ys e in
      let r = occurrences-left_over same told ys xs e in
      let few = count_by-le-length (same e) (left_over same xs ys) in
      let few_other = count_by-le-length (same e) (left_over same ys xs) in
      omega arith)

  -- one such list may stand for the other
  pub diff-reorder : (xs ys zs : List E) → IsPermutation xs ys → diff same xs zs ≡ diff same ys zs
  diff-reorder xs ys zs h =
      let none = diff-order xs ys h in
      let turned = diff-symmetric xs ys in
      let forth = diff-triangle xs ys zs in
      let back = diff-triangle ys xs zs in
      omega arith

  -- a split that leaves what is left of each list without the other
  pub split : (xs ys : List E) → Split xs ys
  split xs ys =
      let left = left_over same xs ys in
      let right = left_over same ys xs in
      let common = left_over same xs left in
      let at : (e : E) → occurrences same common e ≡ min (occurrences same xs e) (occurrences same ys e) = λ e.
      let c = occurrences-left_over same told xs left e in
      let l = occurrences-left_over same told xs ys e in
      omega arith in
      record {
        common = common;
        left = left;
        right = right;
        one = permutation-from same told xs (common ++ left) (λ e. let l = occurrences-left_over same told xs ys e in let a = occurrences-append same common left e in omega (arith, at e));
        other = permutation-from same told ys (common ++ right) (λ e. let l = occurrences-left_over same told ys xs e in let a = occurrences-append same common right e in omega (arith, at e));
      }

  pub split-distance : (xs ys : List E) → length (split xs ys).left + length (split xs ys).right ≡ diff same xs ys
  unfolding split
  split-distance xs ys = sym (diff-left_over xs ys)

  -- every split of two lists bounds their distance, here by how often each element stands in the parts
  pub diff-le-parts : (xs ys common left right : List E) → ((e : E) → occurrences same xs e ≡ occurrences same common e + occurrences same left e) →
      ((e : E) → occurrences same ys e ≡ occurrences same common e + occurrences same right e) → diff same xs ys ≤ length left + length right
  diff-le-parts xs ys common left right h k =
      let forth = length-le same told (left_over same xs ys) left (λ e. let l = occurrences-left_over same told xs ys e in omega (arith, h e, k e)) in
      let back = length-le same told (left_over same ys xs) right (λ e. let l = occurrences-left_over same told ys xs e in omega (arith, h e, k e)) in
      let whole = diff-left_over xs ys in
      omega arith

  pub diff-le-split : (xs ys : List E) (s : Split xs ys) → diff same xs ys ≤ length s.left + length s.right
  diff-le-split xs ys s =
      diff-le-parts xs ys s.common s.left s.right
      (λ e. sym (occurrences-permutation same xs (s.common ++ s.left) e s.one) ∙ occurrences-append same s.common s.left e)
      (λ e. sym (occurrences-permutation same ys (s.common ++ s.right) e s.other) ∙ occurrences-append same s.common s.right e)

  -- the lengths of two lists are no further apart than the lists
  pub diff-lengths : (xs ys : List E) → apart (length xs) (length ys) ≤ diff same xs ys
  diff-lengths xs ys =
      let s = split xs ys in
      let a = length_permutation _ _ s.one in
      let b = length_permutation _ _ s.other in
      let c = length-append s.common s.left in
      let d = length-append s.common s.right in
      let e = split-distance xs ys in
      omega arith

-- a map of each element to at most one element does not raise the distance
pub diff-filter_map : {E F : Type 0} (same : E → E → Bool) (told : (x y : E) → Decides (same x y) (x ≡ y)) (same2 : F → F → Bool) (told2 : (x y : F) → Decides (same2 x y) (x ≡ y))
    (f : E → Option F) (xs ys : List E) → diff same2 (filter_map f xs) (filter_map f ys) ≤ diff same xs ys
diff-filter_map same told same2 told2 f xs ys =
    let s = split same told xs ys in
    let bound = diff-le-parts same2 told2 (filter_map f xs) (filter_map f ys) (filter_map f s.common) (filter_map f s.left) (filter_map f s.right)
    (λ e. filter_map-parts same2 f xs s.common s.left e s.one) (λ e. filter_map-parts same2 f ys s.common s.right e s.other) in
    let l = length-filter_map f s.left in
    let r = length-filter_map f s.right in
    let d = split-distance same told xs ys in
    omega arith

filter_map-map : {E F : Type 0} (f : E → F) (xs : List E) → filter_map (λ x. Some (f x)) xs ≡ map f xs
filter_map-map f [] = refl
filter_map-map f (x ∷ xs) = ap (λ l. f x ∷ l) (filter_map-map f xs)

-- a map does not raise the distance
pub diff-map : {E F : Type 0} (same : E → E → Bool) (told : (x y : E) → Decides (same x y) (x ≡ y)) (same2 : F → F → Bool) (told2 : (x y : F) → Decides (same2 x y) (x ≡ y))
    (f : E → F) (xs ys : List E) → diff same2 (map f xs) (map f ys) ≤ diff same xs ys
diff-map same told same2 told2 f xs ys =
    rw (← filter_map-map f xs, ← filter_map-map f ys) (diff-filter_map same told same2 told2 (λ x. Some (f x)) xs ys)

kept : {E : Type 0} (p : E → Bool) → E → Option E
kept p x = cond (p x) (Some x) None

filter_map-filter-step : {E : Type 0} (p : E → Bool) (x : E) (b : Bool) (l : List E) → cons_option (cond b (Some x) None) l ≡ cond b (x ∷ l) l
filter_map-filter-step p x true l = refl
filter_map-filter-step p x false l = refl

filter_map-filter : {E : Type 0} (p : E → Bool) (xs : List E) → filter_map (kept p) xs ≡ filter p xs
unfolding kept
filter_map-filter p [] = refl
filter_map-filter p (x ∷ xs) = filter_map-filter-step p x (p x) (filter_map (kept p) xs) ∙ ap (λ l. cond (p x) (x ∷ l) l) (filter_map-filter p xs)

-- a filter does not raise the distance
pub diff-filter : {E : Type 0} (same : E → E → Bool) (told : (x y : E) → Decides (same x y) (x ≡ y)) (p : E → Bool) (xs ys : List E) → diff same (filter p xs) (filter p ys) ≤ diff same xs ys
diff-filter same told p xs ys =
    rw (← filter_map-filter p xs, ← filter_map-filter p ys) (diff-filter_map same told same told (kept p) xs ys)
