-- The laws of groups by a key.
use Rattle.std.proofs.Common.{◌≡◌, ℕ, zero, suc, ◌+◌, ◌*◌, ◌≤◌, ◌<◌, min, Bool, true, false, cond, List, [], ◌∷◌, ◌++◌, map, length, refl, sym, ◌∙◌, ap, inl, inr, arith}
use Rattle.std.specs.Prelude.{sum_by, count_by, filter, Decides, nat_lt}
use Rattle.std.specs.List.Sorted.{IsPermutation}
use Rattle.std.proofs.lemmas.Bool.{cases_Bool}
use Rattle.std.proofs.lemmas.Bool.Decides.{nat_tests}
use Rattle.std.proofs.lemmas.List.{map-append, length-map}
use Rattle.std.proofs.lemmas.List.Sums.{sum_by-cons, length-filter, sum_by-le-sum_by}
use Rattle.std.proofs.Math.Nat.{add-mul, mul_comm, mul-le-mul_right}
use Rattle.dp_domain.specs.Distance.{occurrences, distinct, diff}
use Rattle.dp_domain.specs.Users.{group, groups_apart}
use Rattle.dp_domain.proofs.Occurrences.{one, left_over, same-symmetric, sum_by-same, sum_by-add, occurrences-cons, occurrences-append, occurrences-left_over, occurrences-distinct, cover, cover-le, length-le, length-same}
use Rattle.dp_domain.proofs.Growth.{groups_apart-itself}
use Rattle.dp_domain.proofs.Distance.{diff-symmetric, diff-order, diff-none, diff-reorder, diff-le-parts, diff-left_over, diff-filter}

pub count_by-map : {X Y : Type 0} (p : Y → Bool) (f : X → Y) (xs : List X) → count_by p (map f xs) ≡ count_by (λ x. p (f x)) xs
count_by-map p f [] = refl
count_by-map p f (x ∷ xs) =
    let whole = sum_by-cons (λ y. cond (p y) 1 0) (f x) (map f xs) in
    let parts = sum_by-cons (λ y. cond (p (f y)) 1 0) x xs in
    let ih = count_by-map p f xs in
    omega arith

-- 1 for a number that is not 0
sign-min : (n : ℕ) → cond (nat_lt 0 n) 1 0 ≡ min 1 n
sign-min n = elim (cases_Bool (nat_lt 0 n)) [
  | inl h ↦ let some : 0 < n = grind (arith, nat_tests) in rw h (omega arith)
  | inr h ↦ let none : n ≤ 0 = grind (arith, nat_tests) in rw h (omega arith)
]

sign-le : (f g : ℕ) → (g ≡ 0 → f ≡ 0) → min 1 f ≤ min 1 g
sign-le f zero h = omega (arith, h refl)
sign-le f (suc g) h = omega arith

sign-times : (f g n : ℕ) → f ≤ n → (g ≡ 0 → f ≡ 0) → f ≤ min 1 g * n
sign-times f zero n h k = omega (arith, k refl)
sign-times f (suc g) n h k = let one : min 1 (suc g) ≡ 1 = omega arith in rw one (omega arith)

filter-step : {E : Type 0} (same : E → E → Bool) (x e : E) (l : List E) (kept wanted found : Bool) (n : ℕ) → same e x ≡ found
    → (found ≡ true → wanted ≡ kept) → occurrences same l e ≡ cond wanted n 0
    → occurrences same (cond kept (x ∷ l) l) e ≡ cond wanted (one found + n) 0
filter-step same x e l true true found n h k o = rw (occurrences-cons same x l e, h, o) refl
filter-step same x e l true false true n h k o = let clash = k refl in absurd cc
filter-step same x e l true false false n h k o = rw (occurrences-cons same x l e, h, o) refl
filter-step same x e l false true true n h k o = let clash = k refl in absurd cc
filter-step same x e l false true false n h k o = omega arith
filter-step same x e l false false found n h k o = o

-- what passes a filter stands in it as often as before, and nothing else does
pub occurrences-filter : {E : Type 0} (same : E → E → Bool) (told : (x y : E) → Decides (same x y) (x ≡ y)) (p : E → Bool) (xs : List E)
    (e : E)
    → occurrences same (filter p xs) e ≡ cond (p e) (occurrences same xs e) 0
occurrences-filter same told p [] e = elim (cases_Bool (p e)) [ inl h ↦ rw h refl | inr h ↦ rw h refl ]
occurrences-filter same told p (x ∷ xs) e =
    rw (occurrences-cons same x xs e)
    (filter-step same x e (filter p xs) (p x) (p e) (same e x) (occurrences same xs e) refl (λ h. ap p ((told e x).0 h))
    (occurrences-filter same told p xs e))

filter-under : {E : Type 0} (p q : E → Bool) (x : E) (pass : Bool) (xs : List E) → p x ≡ pass
    → filter p (cond (q x) (x ∷ xs) xs) ≡ cond pass (cond (q x) (x ∷ filter p xs) (filter p xs)) (filter p xs)
filter-under p q x pass xs h = elim (cases_Bool (q x)) [
  | inl k ↦ rw k (rw h refl)
  | inr k ↦ rw k (elim (cases_Bool pass) [ inl l ↦ rw l refl | inr l ↦ rw l refl ])
]

cond-either : {X : Type 0} (a b : Bool) (x y : X) → cond a (cond b x y) y ≡ cond b (cond a x y) y
cond-either true true x y = refl
cond-either true false x y = refl
cond-either false true x y = refl
cond-either false false x y = refl

-- two filters may change places
pub filter-twice : {E : Type 0} (p q : E → Bool) (xs : List E) → filter p (filter q xs) ≡ filter q (filter p xs)
filter-twice p q [] = refl
filter-twice p q (x ∷ xs) =
    filter-under p q x (p x) (filter q xs) refl
    ∙ ap (λ l. cond (p x) (cond (q x) (x ∷ l) l) l) (filter-twice p q xs)
    ∙ cond-either (p x) (q x) (x ∷ filter q (filter p xs)) (filter q (filter p xs))
    ∙ sym (filter-under q p x (q x) (filter p xs) refl)

-- a sum of numbers that are at most n where a test holds, and else 0
sum_by-le-where : {X : Type 0} (f g : X → ℕ) (n : ℕ) (xs : List X) → ((x : X) → f x ≤ min 1 (g x) * n)
    → sum_by f xs ≤ sum_by (λ x. min 1 (g x)) xs * n
sum_by-le-where f g n [] h = omega arith
sum_by-le-where f g n (x ∷ xs) h =
    let whole = sum_by-cons f x xs in
    let parts = sum_by-cons (λ y. min 1 (g y)) x xs in
    let ih = sum_by-le-where f g n xs h in
    let here = h x in
    let spread = add-mul (min 1 (g x)) (sum_by (λ y. min 1 (g y)) xs) n in
    rw (whole, parts) (omega arith)

module _ {E : Type 0} (same : E → E → Bool) (told : (x y : E) → Decides (same x y) (x ≡ y)) where
  -- two lists are apart by no more elements than they have
  diff-le-lengths : (xs ys : List E) → diff same xs ys ≤ length xs + length ys
  diff-le-lengths xs ys = diff-le-parts same told xs ys [] xs ys (λ e. omega arith) (λ e. omega arith)

  count-le-step : (p : E → Bool) (keys others : List E) → ((k : E) → occurrences same keys k ≤ 1)
      → ((k : E) → p k ≡ true → 1 ≤ occurrences same others k)
      → (e : E) → occurrences same (filter p keys) e ≤ occurrences same (filter p others) e
  count-le-step p keys others once there e =
      rw (occurrences-filter same told p keys e, occurrences-filter same told p others e)
      (elim (cases_Bool (p e)) [ inl h ↦ rw h (omega (arith, once e, there e h)) | inr h ↦ rw h (omega arith) ])

  -- of different keys, no more pass a test than of a list that holds every element that passes
  count-le : (p : E → Bool) (keys others : List E) → ((k : E) → occurrences same keys k ≤ 1)
      → ((k : E) → p k ≡ true → 1 ≤ occurrences same others k) → count_by p keys ≤ count_by p others
  count-le p keys others once there =
      let bound = length-le same told (filter p keys) (filter p others) (count-le-step p keys others once there) in
      let left = length-filter p keys in
      let right = length-filter p others in
      omega arith

  distinct-once : (xs : List E) (e : E) → occurrences same (distinct same xs) e ≤ 1
  distinct-once xs e = let d = occurrences-distinct same told xs e in omega arith

  distinct-holds : (xs : List E) (e : E) → 1 ≤ occurrences same xs e → 1 ≤ occurrences same (distinct same xs) e
  distinct-holds xs e h = let d = occurrences-distinct same told xs e in omega arith

module _ {E K : Type 0} (key : E → K) (same_key : K → K → Bool) (keys_told : (x y : K) → Decides (same_key x y) (x ≡ y)) (same : E → E
    → Bool) (told : (x y : E) → Decides (same x y) (x ≡ y)) where
  -- how far apart the groups of a key are
  abbrev gap : List E → List E → K → ℕ
  gap xs ys k = diff same (group same_key key k xs) (group same_key key k ys)

  -- a group has as many elements as its key stands among the elements' keys
  pub group-length : (xs : List E) (k : K) → length (group same_key key k xs) ≡ occurrences same_key (map key xs) k
  group-length xs k =
      length-filter (λ x. same_key (key x) k) xs
      ∙ sum_by-same (λ x. cond (same_key (key x) k) 1 0) (λ x. cond (same_key k (key x)) 1 0) xs
      (λ x. ap one (same-symmetric same_key keys_told (key x) k))
      ∙ sym (count_by-map (same_key k) key xs)

  keys-both : (xs ys : List E) (k : K)
      → occurrences same_key (map key (xs ++ ys)) k ≡ length (group same_key key k xs) + length (group same_key key k ys)
  keys-both xs ys k =
      rw (map-append key xs ys) (
      let parts = occurrences-append same_key (map key xs) (map key ys) k in
      let left = group-length xs k in
      let right = group-length ys k in
      omega arith)

  -- a key whose groups differ is a key of an element
  present : (xs ys : List E) (k : K) → nat_lt 0 (gap xs ys k) ≡ true → 1 ≤ occurrences same_key (map key (xs ++ ys)) k
  present xs ys k h =
      let some : 0 < gap xs ys k = grind (arith, nat_tests) in
      let bound = diff-le-lengths same told (group same_key key k xs) (group same_key key k ys) in
      let whole = keys-both xs ys k in
      omega arith

  -- no different keys are more keys whose groups differ
  pub most-parts : (xs ys : List E) (keys : List K) → ((k : K) → occurrences same_key keys k ≤ 1)
      → count_by (λ k. nat_lt 0 (gap xs ys k)) keys ≤ groups_apart same_key key same xs ys
  unfolding groups_apart
  most-parts xs ys keys once =
      count-le same_key keys_told (λ k. nat_lt 0 (gap xs ys k)) keys (distinct same_key (map key (xs ++ ys))) once
      (λ k h. distinct-holds same_key keys_told (map key (xs ++ ys)) k (present xs ys k h))

  -- and different keys that cover both lists are as many
  pub cover-parts : (xs ys : List E) (keys : List K) → ((k : K) → occurrences same_key keys k ≤ 1)
      → ((k : K) → 1 ≤ occurrences same_key (map key (xs ++ ys)) k → 1 ≤ occurrences same_key keys k)
      → count_by (λ k. nat_lt 0 (gap xs ys k)) keys ≡ groups_apart same_key key same xs ys
  unfolding groups_apart
  cover-parts xs ys keys once covers =
      let most = most-parts xs ys keys once in
      let least = count-le same_key keys_told (λ k. nat_lt 0 (gap xs ys k)) (distinct same_key (map key (xs ++ ys))) keys
      (distinct-once same_key keys_told (map key (xs ++ ys)))
      (λ k h. covers k (present xs ys k h)) in
      omega arith

  count-signs : (xs ys : List E) (keys : List K) → count_by (λ k. nat_lt 0 (gap xs ys k)) keys ≡ sum_by (λ k. min 1 (gap xs ys k)) keys
  count-signs xs ys keys =
      sum_by-same (λ k. cond (nat_lt 0 (gap xs ys k)) 1 0) (λ k. min 1 (gap xs ys k)) keys (λ k. sign-min (gap xs ys k))

  -- where a group of us and vs differs only where that of xs and ys does, no more of them differ
  pub parts-le : (us vs xs ys : List E) → ((k : K) → gap xs ys k ≡ 0 → gap us vs k ≡ 0)
      → groups_apart same_key key same us vs ≤ groups_apart same_key key same xs ys
  unfolding groups_apart
  parts-le us vs xs ys stays =
      let keys = distinct same_key (map key (us ++ vs)) in
      let own = count-signs us vs keys in
      let others = count-signs xs ys keys in
      let steps = sum_by-le-sum_by (λ k. min 1 (gap us vs k)) (λ k. min 1 (gap xs ys k)) keys
      (λ k. sign-le (gap us vs k) (gap xs ys k) (stays k)) in
      let most = most-parts xs ys keys (distinct-once same_key keys_told (map key (us ++ vs))) in
      omega arith

  pub parts-symmetric : (xs ys : List E) → groups_apart same_key key same xs ys ≡ groups_apart same_key key same ys xs
  parts-symmetric xs ys =
      let turned : (k : K) → gap xs ys k ≡ gap ys xs k =
      λ k. diff-symmetric same told (group same_key key k xs) (group same_key key k ys) in
      let forth = parts-le xs ys ys xs (λ k h. turned k ∙ h) in
      let back = parts-le ys xs xs ys (λ k h. sym (turned k) ∙ h) in
      omega arith

  -- groups of lists that are the same in another order are so too
  pub group-order : (xs ys : List E) (k : K) → IsPermutation xs ys → IsPermutation (group same_key key k xs) (group same_key key k ys)
  group-order xs ys k h =
      let none = diff-order same told xs ys h in
      let bound = diff-filter same told (λ x. same_key (key x) k) xs ys in
      diff-none same told (group same_key key k xs) (group same_key key k ys) (omega arith)

  pub parts-reorder : (xs ys zs : List E) → IsPermutation xs ys
      → groups_apart same_key key same xs zs ≡ groups_apart same_key key same ys zs
  parts-reorder xs ys zs h =
      let turned : (k : K) → gap xs zs k ≡ gap ys zs k =
      λ k. diff-reorder same told (group same_key key k xs) (group same_key key k ys) (group same_key key k zs)
      (group-order xs ys k h) in
      let forth = parts-le xs zs ys zs (λ k h. turned k ∙ h) in
      let back = parts-le ys zs xs zs (λ k h. sym (turned k) ∙ h) in
      omega arith

  pub parts-filter : (p : E → Bool) (xs ys : List E)
      → groups_apart same_key key same (filter p xs) (filter p ys) ≤ groups_apart same_key key same xs ys
  parts-filter p xs ys =
      parts-le (filter p xs) (filter p ys) xs ys (λ k h.
      let bound = diff-filter same told p (group same_key key k xs) (group same_key key k ys) in
      let left = filter-twice (λ x. same_key (key x) k) p xs in
      let right = filter-twice (λ x. same_key (key x) k) p ys in
      let none : diff same (filter p (group same_key key k xs)) (filter p (group same_key key k ys)) ≡ 0 = omega arith in
      rw (left, right) none)

  -- the group of what is left of a list is what is left of the group
  group-left : (xs ys : List E) (k : K)
      → length (group same_key key k (left_over same xs ys)) ≡ length (left_over same (group same_key key k xs) (group same_key key k ys))
  group-left xs ys k =
      length-same same told (group same_key key k (left_over same xs ys))
      (left_over same (group same_key key k xs) (group same_key key k ys)) (λ e.
      let p = λ (x : E). same_key (key x) k in
      let whole = occurrences-filter same told p (left_over same xs ys) e in
      let parts = occurrences-left_over same told (group same_key key k xs) (group same_key key k ys) e in
      let left = occurrences-filter same told p xs e in
      let right = occurrences-filter same told p ys e in
      let both = occurrences-left_over same told xs ys e in
      rw (whole, parts, left, right, both) (elim (cases_Bool (p e)) [ inl h ↦ rw h refl | inr h ↦ rw h refl ]))

  -- the elements that are left of the one list and of the other, by keys
  gap-left : (xs ys : List E) (k : K)
      → gap xs ys k ≡ occurrences same_key (map key (left_over same xs ys)) k + occurrences same_key (map key (left_over same ys xs)) k
  gap-left xs ys k =
      let whole = diff-left_over same told (group same_key key k xs) (group same_key key k ys) in
      let left = group-left xs ys k in
      let right = group-left ys xs k in
      let left_keys = group-length (left_over same xs ys) k in
      let right_keys = group-length (left_over same ys xs) k in
      omega arith

  gaps-left : (xs ys : List E) (keys : List K)
      → sum_by (gap xs ys) keys ≡ sum_by (occurrences same_key (map key (left_over same xs ys))) keys + sum_by
      (occurrences same_key (map key (left_over same ys xs))) keys
  gaps-left xs ys keys =
      let left = occurrences same_key (map key (left_over same xs ys)) in
      let right = occurrences same_key (map key (left_over same ys xs)) in
      sum_by-same (gap xs ys) (λ k. left k + right k) keys (gap-left xs ys) ∙ sum_by-add left right keys

  -- groups of different keys are together no further apart than the lists
  pub part-sum : (xs ys : List E) (keys : List K) → ((k : K) → occurrences same_key keys k ≤ 1)
      → sum_by (gap xs ys) keys ≤ diff same xs ys
  part-sum xs ys keys once =
      let parts = gaps-left xs ys keys in
      let whole = diff-left_over same told xs ys in
      let left = cover-le same_key keys_told (map key (left_over same xs ys)) keys once in
      let right = cover-le same_key keys_told (map key (left_over same ys xs)) keys once in
      let left_length = length-map (left_over same xs ys) key in
      let right_length = length-map (left_over same ys xs) key in
      omega arith

  covered-left : (xs ys : List E) (keys : List K) → ((k : K) → occurrences same_key keys k ≤ 1)
      → ((k : K) → 1 ≤ length (group same_key key k xs) → 1 ≤ occurrences same_key keys k)
      → sum_by (occurrences same_key (map key (left_over same xs ys))) keys ≡ length (left_over same xs ys)
  covered-left xs ys keys once covers =
      let total = cover same_key keys_told (map key (left_over same xs ys)) keys (λ k h.
      let own = group-length (left_over same xs ys) k in
      let left = group-left xs ys k in
      let few = length-le same told (left_over same (group same_key key k xs) (group same_key key k ys)) (group same_key key k xs)
      (λ e. let l = occurrences-left_over same told (group same_key key k xs) (group same_key key k ys) e in omega arith) in
      omega (arith, once k, covers k)) in
      let count = length-map (left_over same xs ys) key in
      omega arith

  -- and those of different keys that cover both lists are together as far apart as the lists
  pub cover-sum : (xs ys : List E) (keys : List K) → ((k : K) → occurrences same_key keys k ≤ 1)
      → ((k : K) → 1 ≤ occurrences same_key (map key (xs ++ ys)) k → 1 ≤ occurrences same_key keys k)
      → sum_by (gap xs ys) keys ≡ diff same xs ys
  cover-sum xs ys keys once covers =
      let parts = gaps-left xs ys keys in
      let whole = diff-left_over same told xs ys in
      let left = covered-left xs ys keys once (λ k h. covers k (omega (arith, keys-both xs ys k))) in
      let right = covered-left ys xs keys once (λ k h. covers k (omega (arith, keys-both xs ys k))) in
      omega arith

  -- lists of which no group differs are the same in another order
  pub parts-none : (xs ys : List E) → groups_apart same_key key same xs ys ≡ 0 → IsPermutation xs ys
  unfolding groups_apart
  parts-none xs ys h =
      let keys = distinct same_key (map key (xs ++ ys)) in
      let total = cover-sum xs ys keys (distinct-once same_key keys_told (map key (xs ++ ys)))
      (distinct-holds same_key keys_told (map key (xs ++ ys))) in
      let signs = count-signs xs ys keys in
      let none : sum_by (λ k. min 1 (gap xs ys k)) keys ≡ 0 = omega arith in
      let bound = sum_by-le-where (gap xs ys) (gap xs ys) (diff same xs ys) keys
      (λ k. sign-times (gap xs ys k) (gap xs ys k) (diff same xs ys) (diff-filter same told (λ x. same_key (key x) k) xs ys)
      (λ e. e)) in
      let nothing = rw none at bound in
      diff-none same told xs ys (omega arith)

  pub parts-order : (xs ys : List E) → IsPermutation xs ys → groups_apart same_key key same xs ys ≡ 0
  parts-order xs ys h = parts-reorder xs ys ys h ∙ groups_apart-itself same_key key same ys

  -- at most so many elements a group
  pub few-apart : (most : ℕ) (xs ys us vs : List E) → ((k : K) → length (group same_key key k us) ≤ most)
      → ((k : K) → length (group same_key key k vs) ≤ most)
      → ((k : K) → gap xs ys k ≡ 0 → gap us vs k ≡ 0) → diff same us vs ≤ 2 * most * groups_apart same_key key same xs ys
  few-apart most xs ys us vs left right stays =
      let keys = distinct same_key (map key (us ++ vs)) in
      let once = distinct-once same_key keys_told (map key (us ++ vs)) in
      let total = cover-sum us vs keys once (distinct-holds same_key keys_told (map key (us ++ vs))) in
      let signs = count-signs xs ys keys in
      let most_keys = most-parts xs ys keys once in
      let bound = sum_by-le-where (gap us vs) (gap xs ys) (2 * most) keys (λ k.
      sign-times (gap us vs k) (gap xs ys k) (2 * most)
      (omega (arith, diff-le-lengths same told (group same_key key k us) (group same_key key k vs), left k, right k)) (stays k)) in
      let times = mul-le-mul_right {m = sum_by (λ k. min 1 (gap xs ys k)) keys} {n = groups_apart same_key key same xs ys} (2 * most)
      (omega arith) in
      let turned = mul_comm (groups_apart same_key key same xs ys) (2 * most) in
      omega arith
