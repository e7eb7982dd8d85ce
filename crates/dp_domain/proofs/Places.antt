-- The places of a list: how many of them pass a test, and the first few of those that do.
use Rattle.std.proofs.Common.{◌≡◌, ℕ, zero, suc, ◌+◌, ◌-◌, ◌≤◌, ◌<◌, min, Bool, true, false, cond, ◌&&◌, List, [], ◌∷◌, ◌++◌, map, length, get_or, take, drop, refl, sym, ◌∙◌, ap, subst, ◌||◌, inl, inr, add-one, arith}
use Rattle.std.specs.Prelude.{count_by, filter, nat_lt, nat_eq, not, All}
use Rattle.std.specs.List.{range_with_len}
use Rattle.std.specs.List.Sorted.{IsPermutation, IsNonDecreasing}
use Rattle.std.proofs.lemmas.Bool.{cases_Bool}
use Rattle.std.proofs.lemmas.Bool.Decides.{nat_tests}
use Rattle.std.proofs.lemmas.List.FromFn.{fill_by_all}
use Rattle.std.proofs.lemmas.List.Elements.{All-nil, All-cons, All-head, All-tail, All-weaker, All-filter}
use Rattle.std.proofs.lemmas.List.Sorted.{IsPermutation-refl, IsPermutation-cons, IsPermutation-trans, IsPermutation-middle, All-permutation}
use Rattle.std.proofs.lemmas.List.{length-drop, get_or-drop, get_or-take, get_or_default, length-take}
use Rattle.std.proofs.lemmas.List.Sums.{count_by-le-length, sum_by-take-drop, sum_by-cons, sum_by-append}
use Rattle.dp_domain.specs.Distance.{occurrences}
use Rattle.dp_domain.proofs.Equality.{nat_eq-decides}
use Rattle.dp_domain.proofs.Groups.{occurrences-filter}
use Rattle.dp_domain.proofs.Occurrences.{occurrences-cons, occurrences-permutation, one, sum_by-same}

-- the elements at the places of a list are the list
pub map-places : {E : Type 0} (xs : List E) (d : E) → map (λ i. get_or xs i d) (range_with_len 0 (length xs)) ≡ xs
map-places xs d = sym (fill_by_all (λ i. get_or xs i d) xs (length xs) d refl (λ k h. refl))

pub range-more : (a n : ℕ) → range_with_len a (suc n) ≡ range_with_len a n ++ (a + n) ∷ []
range-more a zero = let e : a ≡ a + 0 = omega arith in ap (λ (i : ℕ). i ∷ []) e
range-more a (suc n) =
    let e : a + 1 + n ≡ a + suc n = omega arith in
    rw (← e) (ap (λ (l : List ℕ). a ∷ l) (range-more (a + 1) n))

pub range-push : (n : ℕ) → range_with_len 0 (n + 1) ≡ range_with_len 0 n ++ n ∷ []
range-push n = let e : 0 + n ≡ n = omega arith in rw add-one (range-more 0 n ∙ ap (λ (i : ℕ). range_with_len 0 n ++ i ∷ []) e)

pub count_by-cons : {E : Type 0} (p : E → Bool) (x : E) (xs : List E) → count_by p (x ∷ xs) ≡ one (p x) + count_by p xs
count_by-cons p x xs = sum_by-cons (λ y. one (p y)) x xs

pub count_by-append : {E : Type 0} (p : E → Bool) (xs ys : List E) → count_by p (xs ++ ys) ≡ count_by p xs + count_by p ys
count_by-append p xs ys = sum_by-append (λ y. one (p y)) xs ys

pub count_by-same : {E : Type 0} (p q : E → Bool) (xs : List E) → ((x : E) → p x ≡ q x) → count_by p xs ≡ count_by q xs
count_by-same p q xs h = sum_by-same (λ x. one (p x)) (λ x. one (q x)) xs (λ x. ap one (h x))

filter-count-step : {E : Type 0} (q : E → Bool) (x : E) (b : Bool) (xs : List E)
    → count_by q (cond b (x ∷ xs) xs) ≡ one (b && q x) + count_by q xs
filter-count-step q x true xs = count_by-cons q x xs
filter-count-step q x false xs = omega arith

-- those that pass a test, of those that pass another
pub count_by-filter : {E : Type 0} (p q : E → Bool) (xs : List E) → count_by q (filter p xs) ≡ count_by (λ x. p x && q x) xs
count_by-filter p q [] = refl
count_by-filter p q (x ∷ xs) =
    let here = filter-count-step q x (p x) (filter p xs) in
    let whole = count_by-cons (λ y. p y && q y) x xs in
    let ih = count_by-filter p q xs in
    omega arith

pub count_by-filter-le : {E : Type 0} (p q : E → Bool) (xs : List E) → count_by q (filter p xs) ≤ count_by q xs
count_by-filter-le p q [] = omega arith
count_by-filter-le p q (x ∷ xs) =
    let here = filter-count-step q x (p x) (filter p xs) in
    let whole = count_by-cons q x xs in
    let ih = count_by-filter-le p q xs in
    let small : one (p x && q x) ≤ one (q x) = elim (cases_Bool (p x)) [ inl h ↦ rw h (omega arith) | inr h ↦ rw h (omega arith) ] in
    omega arith

pub count_by-all : {E : Type 0} (p : E → Bool) (xs : List E) → All (λ x. p x ≡ true) xs → count_by p xs ≡ length xs
count_by-all p [] h = refl
count_by-all p (x ∷ xs) h =
    let here : one (p x) ≡ 1 = ap one (All-head (λ y. p y ≡ true) x xs h) in
    let whole = count_by-cons p x xs in
    let ih = count_by-all p xs (All-tail (λ y. p y ≡ true) x xs h) in
    omega arith

pub count_by-none : {E : Type 0} (p : E → Bool) (xs : List E) → All (λ x. p x ≡ false) xs → count_by p xs ≡ 0
count_by-none p [] h = refl
count_by-none p (x ∷ xs) h =
    let here : one (p x) ≡ 0 = ap one (All-head (λ y. p y ≡ false) x xs h) in
    let whole = count_by-cons p x xs in
    let ih = count_by-none p xs (All-tail (λ y. p y ≡ false) x xs h) in
    omega arith

-- one place more
pub count_by-more : (p : ℕ → Bool) (n : ℕ) → count_by p (range_with_len 0 (suc n)) ≡ count_by p (range_with_len 0 n) + one (p n)
count_by-more p n =
    let e : 0 + n ≡ n = omega arith in
    ap (count_by p) (range-more 0 n)
    ∙ count_by-append p (range_with_len 0 n) ((0 + n) ∷ [])
    ∙ rw e (omega arith)

pub one-and : (a b c : Bool) → b ≡ c → one (a && b) ≡ cond c (one a) 0
one-and true true c h = ap one h
one-and true false c h = ap (λ (d : Bool). cond d 1 0) h
one-and false b true h = refl
one-and false b false h = refl

one-le : (b : Bool) → one b ≤ 1
one-le true = omega arith
one-le false = omega arith

-- the places before i that pass
pub count_by-before : (q : ℕ → Bool) (i n : ℕ)
    → count_by (λ j. q j && nat_lt j i) (range_with_len 0 n) ≡ count_by q (range_with_len 0 (min i n))
count_by-before q i zero = let e : min i 0 ≡ 0 = omega arith in rw e refl
count_by-before q i (suc n) =
    let whole = count_by-more (λ j. q j && nat_lt j i) n in
    let ih = count_by-before q i n in
    elim (cases_Bool (nat_lt n i)) [
      | inl h ↦
          let under : n < i = grind (arith, nat_tests) in
          let now : min i n ≡ n = omega arith in
          let next : min i (suc n) ≡ suc n = omega arith in
          let more = count_by-more q n in
          let at = one-and (q n) (nat_lt n i) true h in
          let before = rw now at ih in
          rw next (omega arith)
      | inr h ↦
          let past : i ≤ n = grind (arith, nat_tests) in
          let now : min i n ≡ i = omega arith in
          let next : min i (suc n) ≡ i = omega arith in
          let at = one-and (q n) (nat_lt n i) false h in
          let before = rw now at ih in
          rw next (omega arith)
    ]

-- of the places that pass, those with fewer than m before them that do
pub count_by-first : (q : ℕ → Bool) (m total n : ℕ) → n ≤ total
    → count_by (λ i. q i && nat_lt (count_by q (range_with_len 0 (min i total))) m) (range_with_len 0 n) ≡ min
    (count_by q (range_with_len 0 n)) m
count_by-first q m total zero h = omega arith
count_by-first q m total (suc n) h =
    let few = λ (i : ℕ). q i && nat_lt (count_by q (range_with_len 0 (min i total))) m in
    let whole = count_by-more few n in
    let more = count_by-more q n in
    let ih = count_by-first q m total n (omega arith) in
    let small = one-le (q n) in
    let now : min n total ≡ n = omega arith in
    let shown : one (few n) ≡ one (q n && nat_lt (count_by q (range_with_len 0 n)) m) =
    ap (λ (k : ℕ). one (q n && nat_lt (count_by q (range_with_len 0 k)) m)) now in
    elim (cases_Bool (nat_lt (count_by q (range_with_len 0 n)) m)) [
      | inl k ↦
          let under : count_by q (range_with_len 0 n) < m = grind (arith, nat_tests) in
          let at = one-and (q n) (nat_lt (count_by q (range_with_len 0 n)) m) true k in
          omega arith
      | inr k ↦
          let past : m ≤ count_by q (range_with_len 0 n) = grind (arith, nat_tests) in
          let at = one-and (q n) (nat_lt (count_by q (range_with_len 0 n)) m) false k in
          omega arith
    ]

-- each number is below every later one
abbrev pub Rising : List ℕ → Type 0
Rising [] = Unit {0}
Rising (x ∷ xs) = All (λ y. x < y) xs × Rising xs

All-range : (b a n : ℕ) → b < a → All (λ y. b < y) (range_with_len a n)
All-range b a zero h = All-nil (λ y. b < y)
All-range b a (suc n) h = All-cons (λ y. b < y) a (range_with_len (a + 1) n) h (All-range b (a + 1) n (omega arith))

rising-kept : (p : ℕ → Bool) (a : ℕ) (kept : Bool) (xs : List ℕ) → All (λ y. a < y) xs → Rising xs → Rising (cond kept (a ∷ xs) xs)
rising-kept p a true xs h k = (h, k)
rising-kept p a false xs h k = k

pub rising-range : (a n : ℕ) → Rising (range_with_len a n)
rising-range a zero = tt
rising-range a (suc n) = (All-range a (a + 1) n (omega arith), rising-range (a + 1) n)

-- those of rising numbers that pass a test
pub rising-filter : (p : ℕ → Bool) (xs : List ℕ) → Rising xs → Rising (filter p xs)
rising-filter p [] h = tt
rising-filter p (x ∷ xs) h = rising-kept p x (p x) (filter p xs) (All-filter p (λ y. x < y) xs h.0) (rising-filter p xs h.1)

-- a place that all others are before
pub record Last (before : ℕ → ℕ → Bool) (xs : List ℕ) : Type 0 where
  pub last : ℕ
  pub rest : List ℕ
  pub is : IsPermutation xs (last ∷ rest)
  pub below : All (λ j. before j last ≡ true) rest

module _ (before : ℕ → ℕ → Bool) (one_way : (i j : ℕ) → i < j → before i j ≡ false → before j i ≡ true) (chain : (i j k : ℕ)
    → before i j ≡ true → before j k ≡ true → before i k ≡ true) where
  last-step : (x : ℕ) (xs : List ℕ) → All (λ y. x < y) xs → Last before xs → Last before (x ∷ xs)
  last-step x xs above l =
      let over : x < l.last = All-head (λ y. x < y) l.last l.rest (All-permutation (λ y. x < y) xs (l.last ∷ l.rest) l.is above) in
      elim (cases_Bool (before x l.last)) [
        | inl h ↦ record {
          last = l.last;
          rest = x ∷ l.rest;
          is = IsPermutation-trans _ _ _ (IsPermutation-cons x xs (l.last ∷ l.rest) l.is) (IsPermutation-middle (x ∷ []) l.last l.rest);
          below = All-cons (λ j. before j l.last ≡ true) x l.rest h l.below;
        }
        | inr h ↦
            let turned = one_way x l.last over h in
            record {
              last = x;
              rest = l.last ∷ l.rest;
              is = IsPermutation-cons x xs (l.last ∷ l.rest) l.is;
              below = All-cons (λ j. before j x ≡ true) l.last l.rest turned
                  (All-weaker (λ j. before j l.last ≡ true) (λ j. before j x ≡ true) (λ j k. chain j l.last x k turned) l.rest l.below);
            }
      ]

  -- rising places have one
  pub last-of : (x : ℕ) (xs : List ℕ) → Rising (x ∷ xs) → Last before (x ∷ xs)
  last-of x [] h = record { last = x; rest = []; is = IsPermutation-refl (x ∷ []); below = All-nil (λ j. before j x ≡ true) }
  last-of x (y ∷ ys) h = last-step x (y ∷ ys) h.0 (last-of y ys h.1)

-- each number is at most every later one
abbrev pub Climbing : List ℕ → Type 0
Climbing [] = Unit {0}
Climbing (x ∷ xs) = All (λ y. x ≤ y) xs × Climbing xs

pub climbing-rising : (xs : List ℕ) → Rising xs → Climbing xs
climbing-rising [] h = tt
climbing-rising (x ∷ xs) h = (All-weaker (λ y. x < y) (λ y. x ≤ y) (λ y k. omega arith) xs h.0, climbing-rising xs h.1)

pub climbing-sorted : (xs : List ℕ) → IsNonDecreasing xs → Climbing xs
climbing-sorted [] h = tt
climbing-sorted (x ∷ xs) h = (
  λ k d m. rw add-one at (h 0 (k + 1) d (omega arith) (omega arith)),
  climbing-sorted xs (λ i j d m n. rw (add-one, add-one) at (h (i + 1) (j + 1) d (omega arith) (omega arith))),
)

pub stands-first : (x : ℕ) (xs : List ℕ) → 1 ≤ occurrences nat_eq (x ∷ xs) x
stands-first x xs = let c = occurrences-cons nat_eq x xs x in let e : one (nat_eq x x) ≡ 1 =
    ap one ((nat_eq-decides x x).1 refl) in omega arith

member-step : (P : ℕ → Type 0) (x : ℕ) (xs : List ℕ) (z : ℕ) (b : Bool) → nat_eq z x ≡ b → P x → (1 ≤ occurrences nat_eq xs z → P z)
    → 1 ≤ one b + occurrences nat_eq xs z → P z
member-step P x xs z true e head tail h = subst P (sym ((nat_eq-decides z x).0 e)) head
member-step P x xs z false e head tail h = tail (omega arith)

-- what holds of each number holds of one that stands in the list
pub member : (P : ℕ → Type 0) (xs : List ℕ) (z : ℕ) → All P xs → 1 ≤ occurrences nat_eq xs z → P z
member P [] z all h = absurd (omega arith)
member P (x ∷ xs) z all h =
    member-step P x xs z (nat_eq z x) refl (All-head P x xs all) (member P xs z (All-tail P x xs all))
    (rw (occurrences-cons nat_eq x xs z) at h)

first-least : (x : ℕ) (xs : List ℕ) (z : ℕ) → Climbing (x ∷ xs) → 1 ≤ occurrences nat_eq (x ∷ xs) z → x ≤ z
first-least x xs z climbs h = member (λ y. x ≤ y) (x ∷ xs) z (All-cons (λ y. x ≤ y) x xs (omega arith) climbs.0) h

-- numbers in order that stand equally often in two lists: the lists are equal
pub climbing-once : (xs ys : List ℕ) → Climbing xs → Climbing ys → ((e : ℕ) → occurrences nat_eq xs e ≡ occurrences nat_eq ys e) → xs ≡ ys
climbing-once [] [] h k often = refl
climbing-once [] (y ∷ ys) h k often = let a = stands-first y ys in let b = often y in absurd (omega arith)
climbing-once (x ∷ xs) [] h k often = let a = stands-first x xs in let b = often x in absurd (omega arith)
climbing-once (x ∷ xs) (y ∷ ys) h k often =
    let in_right : 1 ≤ occurrences nat_eq (y ∷ ys) x = let a = stands-first x xs in let b = often x in omega arith in
    let in_left : 1 ≤ occurrences nat_eq (x ∷ xs) y = let a = stands-first y ys in let b = often y in omega arith in
    let up = first-least x xs y h in_left in
    let down = first-least y ys x k in_right in
    let heads : x ≡ y = omega arith in
    let tails = climbing-once xs ys h.1 k.1 (λ e.
    let a = often e in
    let b = occurrences-cons nat_eq x xs e in
    let c = occurrences-cons nat_eq y ys e in
    let d : one (nat_eq e x) ≡ one (nat_eq e y) = ap (λ (z : ℕ). one (nat_eq e z)) heads in
    omega arith) in
    ap (λ (z : ℕ). z ∷ xs) heads ∙ ap (λ (l : List ℕ). y ∷ l) tails

-- the places that pass a test, found in any order and put in order
pub filter-sorted : (p : ℕ → Bool) (n : ℕ) (found kept sorted : List ℕ) → IsPermutation (range_with_len 0 n) found
    → kept ≡ filter p found → IsPermutation kept sorted → IsNonDecreasing sorted → sorted ≡ filter p (range_with_len 0 n)
filter-sorted p n found kept sorted moved kept_is turned order =
    climbing-once sorted (filter p (range_with_len 0 n)) (climbing-sorted sorted order)
    (climbing-rising (filter p (range_with_len 0 n)) (rising-filter p (range_with_len 0 n) (rising-range 0 n)))
    (λ e.
    let a = occurrences-permutation nat_eq kept sorted e turned in
    let b = ap (λ (l : List ℕ). occurrences nat_eq l e) kept_is in
    let c = occurrences-filter nat_eq nat_eq-decides p found e in
    let d = occurrences-filter nat_eq nat_eq-decides p (range_with_len 0 n) e in
    let m = occurrences-permutation nat_eq (range_with_len 0 n) found e moved in
    a ∙ b ∙ c ∙ ap (λ (k : ℕ). cond (p e) k 0) m ∙ sym d)

pub none-from-count : {E : Type 0} (p : E → Bool) (xs : List E) → count_by p xs ≡ 0 → All (λ x. p x ≡ false) xs
none-from-count p [] h = All-nil (λ y. p y ≡ false)
none-from-count p (x ∷ xs) h =
    let whole = count_by-cons p x xs in
    let rest = none-from-count p xs (omega arith) in
    All-cons (λ y. p y ≡ false) x xs
    (elim (cases_Bool (p x)) [ inl k ↦ let here : one (p x) ≡ 1 = ap one k in absurd (omega arith) | inr k ↦ k ]) rest

pub count_by-same-all : {E : Type 0} (p q : E → Bool) (xs : List E) → All (λ x. p x ≡ q x) xs → count_by p xs ≡ count_by q xs
count_by-same-all p q [] h = refl
count_by-same-all p q (x ∷ xs) h =
    let left = count_by-cons p x xs in
    let right = count_by-cons q x xs in
    let here = ap one (All-head (λ y. p y ≡ q y) x xs h) in
    let ih = count_by-same-all p q xs (All-tail (λ y. p y ≡ q y) x xs h) in
    omega arith

not-passing : (a b : Bool) → b ≡ false → (a ≡ true → b ≡ true) → a ≡ false
not-passing true b h k = sym (k refl) ∙ h
not-passing false b h k = refl

-- where those that pass stand at the end, fewer than m pass exactly where there are fewer, or the one m before the end
-- does not pass
pub count_by-end : (s : ℕ → Bool) (xs : List ℕ) (m : ℕ) → 1 ≤ m
    → ((a b : ℕ) → a ≤ b → b < length xs → s (get_or xs a 0) ≡ true → s (get_or xs b 0) ≡ true)
    → (nat_lt (length xs) m || not (s (get_or xs (length xs - m) 0))) ≡ nat_lt (count_by s xs) m
count_by-end s xs m some closed =
    let all = count_by-le-length s xs in
    elim (cases_Bool (nat_lt (length xs) m)) [
      | inl h ↦
          let short : length xs < m = grind (arith, nat_tests) in
          let few : nat_lt (count_by s xs) m ≡ true = grind (arith, nat_tests) in
          rw (h, few) refl
      | inr h ↦
          let long : m ≤ length xs = grind (arith, nat_tests) in
          let at = length xs - m in
          elim (cases_Bool (s (get_or xs at 0))) [
            | inl k ↦
                let in_drop = length-drop at xs in
                let passes : All (λ x. s x ≡ true) (drop at xs) = λ i d l.
                let same = get_or_default (drop at xs) i d 0 l in
                ap s (same ∙ get_or-drop at xs i 0) ∙ closed at (at + i) (omega arith) (omega arith) k in
                let counted = count_by-all s (drop at xs) passes in
                let parts = sum_by-take-drop (λ x. one (s x)) xs at in
                let big : m ≤ count_by s xs = omega arith in
                let many : nat_lt (count_by s xs) m ≡ false = grind (arith, nat_tests) in
                rw (h, k, many) refl
            | inr k ↦
                let in_take = length-take (at + 1) xs in
                let in_drop = length-drop (at + 1) xs in
                let fails : All (λ x. s x ≡ false) (take (at + 1) xs) = λ i d l.
                let same = get_or-take (at + 1) xs i d (omega arith) in
                let other = get_or_default xs i d 0 (omega arith) in
                ap s (same ∙ other) ∙ not-passing (s (get_or xs i 0)) (s (get_or xs at 0)) k (closed i at (omega arith) (omega arith)) in
                let counted = count_by-none s (take (at + 1) xs) fails in
                let parts = sum_by-take-drop (λ x. one (s x)) xs (at + 1) in
                let rest = count_by-le-length s (drop (at + 1) xs) in
                let small : count_by s xs < m = omega arith in
                let few : nat_lt (count_by s xs) m ≡ true = grind (arith, nat_tests) in
                rw (h, k, few) refl
          ]
    ]
