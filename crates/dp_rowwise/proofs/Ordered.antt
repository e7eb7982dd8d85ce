-- Places that are ordered by persons: how many of a person stand before one.
use Rattle.std.proofs.Common.{◌≡◌, ℕ, ◌+◌, ◌-◌, ◌≤◌, ◌<◌, true, false, ◌&&◌, ◌||◌, List, length, get_or, take, drop, refl, sym, ◌∙◌, ap, inl, inr, arith, Less, Equal, Greater}
use Rattle.std.specs.declared.cmp.Ordering.{Ordering}
use Rattle.std.specs.Prelude.{count_by, All, nat_lt, nat_eq, not}
use Rattle.std.specs.List.Sorted.{IsPermutation, IsSortedBy}
use Rattle.std.specs.Ordering.{nat_cmp, is_lt, is_eq, ordering_then, ordering_reverse, on}
use Rattle.std.specs.Cmp.{IsTotalOrder, IsStrictWeakOrder}
use Rattle.std.specs.Cmp.Lexicographic.{nat_list_cmp_total, texts_ties}
use Rattle.std.proofs.lemmas.Bool.{cases_Bool}
use Rattle.std.proofs.lemmas.Bool.Decides.{nat_tests}
use Rattle.std.proofs.lemmas.Cmp.{nat_cmp_total, then_total, on_total}
use Rattle.std.proofs.lemmas.List.{length-take, length-drop, get_or-take, get_or-drop, get_or_default, drop_more}
use Rattle.std.proofs.lemmas.List.Sorted.{sum_by-IsPermutation, ranks_by, sorted_far}
use Rattle.std.proofs.lemmas.List.Sums.{sum_by-take-drop}
use Rattle.dp_domain.specs.Distance.{occurrences, text_eq}
use Rattle.dp_domain.specs.Users.{cell}
use Rattle.dp_domain.proofs.Occurrences.{one, occurrences-permutation}
use Rattle.dp_domain.proofs.Equality.{text_eq-decides}
use Rattle.dp_domain.proofs.Histograms.{range-once}
use Rattle.dp_domain.proofs.Places.{count_by-none, none-from-count, count_by-same-all, count_by-end, stands-first}
use Rattle.dp_rowwise.specs.Truncate.{text_cmp, record_cmp, places, record_at, same_person, ranks_before, rank}
use Rattle.dp_rowwise.specs.Persons.{person_cmp, place_cmp}
use Rattle.dp_rowwise.specs.TruncateProof.{Records, record_cmp-total, before-is}

-- the order of a person's places
abbrev by_person : ℕ → Records → ℕ → ℕ → Ordering
by_person column rows = on (λ i. cell column (record_at rows i)) text_cmp

pub place_cmp-total : (column : ℕ) (rows : Records) → IsTotalOrder (place_cmp column rows)
place_cmp-total column rows =
    then_total (then_total (on_total (λ i. cell column (record_at rows i)) nat_list_cmp_total)
    (on_total (record_at rows) record_cmp-total)) nat_cmp_total

pub place_cmp-weak : (column : ℕ) (rows : Records) → IsStrictWeakOrder (λ i j. is_lt (place_cmp column rows i j))
place_cmp-weak column rows = ranks_by (place_cmp-total column rows) (λ i. i)

not-before_by : (p r n : Ordering) → is_lt (ordering_then (ordering_then p r) n) ≡ false → is_lt p ≡ false
not-before_by Less r n h = h
not-before_by Equal r n h = refl
not-before_by Greater r n h = refl

equal_by : (p q : Ordering) → p ≡ ordering_reverse q → is_lt p ≡ false → is_lt q ≡ false → is_eq p ≡ true
equal_by Less q e h k = absurd cc
equal_by Equal q e h k = refl
equal_by Greater Less e h k = absurd cc
equal_by Greater Equal e h k = absurd cc
equal_by Greater Greater e h k = absurd cc

-- texts of which none is less than the other are equal
same-from-order : (x y : List ℕ) → is_lt (text_cmp x y) ≡ false → is_lt (text_cmp y x) ≡ false → text_eq x y ≡ true
same-from-order x y h k = texts_ties x y ∙ equal_by (text_cmp x y) (text_cmp y x) (nat_list_cmp_total.antisymm x y) h k

greater_by : (o p : Ordering) → p ≡ ordering_reverse o → is_lt o ≡ false → is_eq o ≡ false → is_lt p ≡ true
greater_by Less p e h k = absurd cc
greater_by Equal p e h k = absurd cc
greater_by Greater p e h k = rw e refl

not-tied : (q : Ordering) (i j : ℕ) → nat_eq i j ≡ false → is_eq (ordering_then q (nat_cmp i j)) ≡ false
not-tied Less i j h = refl
not-tied Equal i j h = rw h (elim (cases_Bool (nat_lt i j)) [ inl k ↦ rw k refl | inr k ↦ rw k refl ])
not-tied Greater i j h = refl

is-equal : (o : Ordering) → is_eq o ≡ true → o ≡ Equal
is-equal Less h = absurd cc
is-equal Equal h = refl
is-equal Greater h = absurd cc

-- among the places of a person the order is that of their ranks
same-ranks : (column : ℕ) (rows : Records) (i j : ℕ) → same_person column rows i j ≡ true
    → ranks_before rows i j ≡ is_lt (place_cmp column rows i j)
same-ranks column rows i j h =
    let x = cell column (record_at rows i) in
    let y = cell column (record_at rows j) in
    let tied = is-equal (text_cmp x y) (sym (texts_ties x y) ∙ h) in
    before-is rows i j ∙ sym
    (ap (λ (o : Ordering). is_lt
    (ordering_then (ordering_then o (record_cmp (record_at rows i) (record_at rows j))) (nat_cmp i j))) tied)

test-late : (column : ℕ) (rows : Records) (i j : ℕ) → is_lt (place_cmp column rows i j) ≡ false
    → (same_person column rows i j && ranks_before rows i j) ≡ false
test-late column rows i j h = elim (cases_Bool (same_person column rows i j)) [
  | inl k ↦ let later = same-ranks column rows i j k ∙ h in rw k later
  | inr k ↦ rw k refl
]

test-early : (column : ℕ) (rows : Records) (i j : ℕ) → is_lt (place_cmp column rows i j) ≡ true
    → (same_person column rows i j && ranks_before rows i j) ≡ same_person column rows i j
test-early column rows i j h = elim (cases_Bool (same_person column rows i j)) [
  | inl k ↦ let earlier = same-ranks column rows i j k ∙ h in rw k earlier
  | inr k ↦ rw k refl
]

module _ (column : ℕ) (rows : Records) (ordered : List ℕ) (all : IsPermutation (places rows) ordered)
    (sorted : IsSortedBy (λ i j. is_lt (place_cmp column rows i j)) ordered) where
  -- a later place is not before an earlier one
  not-before : (a b : ℕ) → a ≤ b → b < length ordered → is_lt (place_cmp column rows (get_or ordered b 0) (get_or ordered a 0)) ≡ false
  not-before a b h k = sorted_far (λ i j. is_lt (place_cmp column rows i j)) (place_cmp-weak column rows) ordered sorted a b 0 h k

  person-not-before : (a b : ℕ) → a ≤ b → b < length ordered
      → is_lt (text_cmp (cell column (record_at rows (get_or ordered b 0))) (cell column (record_at rows (get_or ordered a 0)))) ≡ false
  person-not-before a b h k =
      let i = get_or ordered b 0 in
      let j = get_or ordered a 0 in
      not-before_by (text_cmp (cell column (record_at rows i)) (cell column (record_at rows j)))
      (record_cmp (record_at rows i) (record_at rows j)) (nat_cmp i j) (not-before a b h k)

  -- between two places of a person stand only places of that person
  between : (a b c : ℕ) → a ≤ b → b ≤ c → c < length ordered → same_person column rows (get_or ordered a 0) (get_or ordered c 0) ≡ true
      → same_person column rows (get_or ordered b 0) (get_or ordered c 0) ≡ true
  between a b c h k m same =
      let first = cell column (record_at rows (get_or ordered a 0)) in
      let middle = cell column (record_at rows (get_or ordered b 0)) in
      let end = cell column (record_at rows (get_or ordered c 0)) in
      let named : first ≡ end = (text_eq-decides first end).0 same in
      let under = person-not-before a b h (omega arith) in
      let moved = ap (λ (t : List ℕ). is_lt (text_cmp middle t)) (sym named) ∙ under in
      same-from-order middle end moved (person-not-before b c k m)

  -- no place stands twice
  apart-places : (a b : ℕ) → a < b → b < length ordered → nat_eq (get_or ordered b 0) (get_or ordered a 0) ≡ false
  apart-places a b h k =
      let x = get_or ordered b 0 in
      let moved = occurrences-permutation nat_eq (places rows) ordered x all in
      let once = range-once 0 (length rows) x in
      let parts = sum_by-take-drop (λ y. one (nat_eq x y)) ordered b in
      let split = ap (λ (l : List ℕ). occurrences nat_eq l x) (drop_more ordered b 0 k) in
      let here = stands-first x (drop (b + 1) ordered) in
      let short = length-take b ordered in
      let none = none-from-count (nat_eq x) (take b ordered) (omega arith) a 0 (omega arith) in
      ap (nat_eq x) (sym (get_or-take b ordered a 0 h)) ∙ none

  strictly-before : (a b : ℕ) → a < b → b < length ordered
      → is_lt (place_cmp column rows (get_or ordered a 0) (get_or ordered b 0)) ≡ true
  strictly-before a b h k =
      let i = get_or ordered b 0 in
      let j = get_or ordered a 0 in
      greater_by (place_cmp column rows i j) (place_cmp column rows j i) ((place_cmp-total column rows).antisymm j i)
      (not-before a b (omega arith) k)
      (not-tied (person_cmp column rows i j) i j (apart-places a b h k))

  -- the rank of a place is the number of its person's places before it
  rank-before : (index : ℕ) → index < length ordered
      → rank column rows (get_or ordered index 0) ≡ count_by (λ j. same_person column rows j (get_or ordered index 0))
      (take index ordered)
  unfolding rank
  rank-before index within =
      let x = get_or ordered index 0 in
      let test = λ (j : ℕ). same_person column rows j x && ranks_before rows j x in
      let turned = sum_by-IsPermutation (λ j. one (test j)) (places rows) ordered all in
      let parts = sum_by-take-drop (λ j. one (test j)) ordered index in
      let in_drop = length-drop index ordered in
      let in_take = length-take index ordered in
      let later : All (λ j. test j ≡ false) (drop index ordered) = λ k d m.
      let same = get_or_default (drop index ordered) k d 0 m in
      ap test (same ∙ get_or-drop index ordered k 0)
      ∙ test-late column rows (get_or ordered (index + k) 0) x (not-before index (index + k) (omega arith) (omega arith)) in
      let earlier : All (λ j. test j ≡ same_person column rows j x) (take index ordered) = λ k d m.
      let under : k < index = omega arith in
      let same = get_or_default (take index ordered) k d 0 m ∙ get_or-take index ordered k 0 under in
      ap test same ∙ test-early column rows (get_or ordered k 0) x (strictly-before k index under within)
      ∙ ap (λ (j : ℕ). same_person column rows j x) (sym same) in
      let none = count_by-none test (drop index ordered) later in
      let some = count_by-same-all test (λ j. same_person column rows j x) (take index ordered) earlier in
      omega arith

  -- the test of the loop
  pub early-is : (index most : ℕ) → 1 ≤ most → index < length ordered
      → (nat_lt index most || not (same_person column rows (get_or ordered (index - most) 0) (get_or ordered index 0))) ≡ nat_lt
      (rank column rows (get_or ordered index 0)) most
  early-is index most some within =
      let x = get_or ordered index 0 in
      let mine = λ (j : ℕ). same_person column rows j x in
      let short = length-take index ordered in
      let long : length (take index ordered) ≡ index = omega arith in
      let closed : (a b : ℕ) → a ≤ b → b < length (take index ordered) → mine (get_or (take index ordered) a 0) ≡ true
      → mine (get_or (take index ordered) b 0) ≡ true = λ a b h k s.
      ap mine (get_or-take index ordered b 0 (omega arith))
      ∙ between a b index h (omega arith) within (ap mine (sym (get_or-take index ordered a 0 (omega arith))) ∙ s) in
      let whole = count_by-end mine (take index ordered) most some closed in
      let ranked = ap (λ (n : ℕ). nat_lt n most) (sym (rank-before index within)) in
      elim (cases_Bool (nat_lt index most)) [
        | inl h ↦
            let first : nat_lt (length (take index ordered)) most ≡ true = ap (λ (n : ℕ). nat_lt n most) long ∙ h in
            let all_early = rw first at whole in
            rw h (all_early ∙ ranked)
        | inr h ↦
            let over : most ≤ index = grind (arith, nat_tests) in
            let first : nat_lt (length (take index ordered)) most ≡ false = ap (λ (n : ℕ). nat_lt n most) long ∙ h in
            let by_place = rw first at whole in
            let at = ap (λ (n : ℕ). get_or (take index ordered) (n - most) 0) long
            ∙ get_or-take index ordered (index - most) 0 (omega arith) in
            rw h (sym (ap (λ (j : ℕ). not (mine j)) at) ∙ by_place ∙ ranked)
      ]

  pub early-first : (index most : ℕ) → 1 ≤ most → index < length ordered → index < most
      → nat_lt index most ≡ nat_lt (rank column rows (get_or ordered index 0)) most
  early-first index most some within under =
      let h : nat_lt index most ≡ true = grind (arith, nat_tests) in
      h ∙ rw h at (early-is index most some within)

  pub early-later : (index most : ℕ) → 1 ≤ most → index < length ordered → most ≤ index
      → not (same_person column rows (get_or ordered (index - most) 0) (get_or ordered index 0)) ≡ nat_lt
      (rank column rows (get_or ordered index 0)) most
  early-later index most some within over =
      let h : nat_lt index most ≡ false = grind (arith, nat_tests) in
      rw h at (early-is index most some within)
