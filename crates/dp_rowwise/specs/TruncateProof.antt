-- Truncating is stable.
use Rattle.std.proofs.Common.{◌≡◌, ℕ, ◌+◌, ◌-◌, ◌*◌, ◌≤◌, ◌<◌, min, Bool, true, false, ◌&&◌, ◌||◌, List, [], ◌∷◌, map, length, get_or, refl, sym, ◌∙◌, ap, subst, inl, inr, arith, Less, Equal, Greater}
use Rattle.std.specs.declared.cmp.Ordering.{Ordering}
use Rattle.std.specs.Prelude.{count_by, filter, All, nat_lt, nat_eq}
use Rattle.std.specs.List.{range_with_len}
use Rattle.std.specs.Ordering.{nat_cmp, is_lt, is_eq, ordering_then, ordering_reverse, on, then_cmp}
use Rattle.std.specs.Cmp.{IsTotalOrder}
use Rattle.std.specs.Cmp.Lexicographic.{lists_total, lists_ties, nat_list_cmp_total, texts_ties}
use Rattle.std.proofs.lemmas.Bool.{cases_Bool}
use Rattle.std.proofs.lemmas.Bool.Decides.{nat_tests}
use Rattle.std.proofs.lemmas.Cmp.{tied_itself, nat_cmp_total, then_total, on_total}
use Rattle.std.proofs.lemmas.List.{length-map}
use Rattle.std.proofs.lemmas.List.FromFn.{length-range_with_len, get_or-range_with_len}
use Rattle.std.proofs.lemmas.List.Elements.{All-head, All-tail, All-map, All-filter, filter_passes}
use Rattle.std.proofs.lemmas.List.Sorted.{length_permutation, sum_by-IsPermutation, All-permutation}
use Rattle.std.proofs.lemmas.List.Sums.{length-filter, count_by-le-length}
use Rattle.std.proofs.Math.Nat.{mul-le-mul_left}
use Rattle.dp_domain.specs.Distance.{occurrences, diff, text_eq, record_eq}
use Rattle.dp_domain.specs.Users.{group, cell, users_apart}
use Rattle.dp_domain.specs.Domains.{Fits, Has}
use Rattle.dp_domain.specs.Metrics.{Within}
use Rattle.dp_domain.specs.declared.domains.Domain.TheVariants as domain
use Rattle.dp_domain.specs.declared.metrics.Metric.TheVariants as metrics
use Rattle.dp_domain.specs.declared.values.Value.{Value}
use Rattle.dp_domain.specs.declared.values.Value.TheVariants as value
use Rattle.dp_domain.proofs.Occurrences.{one, same-symmetric, sum_by-same, sum_by-add, occurrences-permutation, permutation-from}
use Rattle.dp_domain.proofs.Distance.{diff-none, diff-order}
use Rattle.dp_domain.proofs.Groups.{count_by-map, occurrences-filter, few-apart}
use Rattle.dp_domain.proofs.Equality.{text_eq-decides, record_eq-decides}
use Rattle.dp_domain.proofs.Places.{Last, Rising, map-places, count_by-before, count_by-first, count_by-same, count_by-filter, count_by-filter-le, count_by-all, count_by-cons, rising-range, rising-filter, last-of}
use Rattle.dp_law.specs.Mapping.{IsStable}
use Rattle.dp_law.proofs.Caps.{capped-same, capped-le}
use Rattle.dp_rowwise.specs.Truncate.{text_cmp, record_cmp, places, record_at, same_person, ranks_before, rank, kept_places, truncated, truncate_value, truncate_mapping}

-- records, each a list of cells
abbrev pub Records : Type 0
Records = List (List (List ℕ))

pub record_cmp-total : IsTotalOrder record_cmp
record_cmp-total = lists_total nat_list_cmp_total

-- the order tells equal records as the test does
record-ties : (x y : List (List ℕ)) → record_eq x y ≡ is_eq (record_cmp x y)
record-ties x y = lists_ties text_cmp texts_ties x y

pub lt-nat_cmp : (j i : ℕ) → is_lt (nat_cmp j i) ≡ nat_lt j i
lt-nat_cmp j i = elim (cases_Bool (nat_lt j i)) [
  | inl h ↦ rw h refl
  | inr h ↦ rw h (elim (cases_Bool (nat_eq j i)) [ inl k ↦ rw k refl | inr k ↦ rw k refl ])
]

before_by : (o : Ordering) (j i : ℕ) → (is_lt o || (is_eq o && nat_lt j i)) ≡ is_lt (ordering_then o (nat_cmp j i))
before_by Less j i = refl
before_by Equal j i = sym (lt-nat_cmp j i)
before_by Greater j i = refl

-- places by their records, and places of equal records by themselves
abbrev pub place_order : Records → ℕ → ℕ → Ordering
place_order rows = then_cmp (on (record_at rows) record_cmp) nat_cmp

pub place_order-total : (rows : Records) → IsTotalOrder (place_order rows)
place_order-total rows = then_total (on_total (record_at rows) record_cmp-total) nat_cmp_total

pub before-is : (rows : Records) (j i : ℕ) → ranks_before rows j i ≡ is_lt (place_order rows j i)
before-is rows j i =
    ap (λ (b : Bool). is_lt (record_cmp (record_at rows j) (record_at rows i)) || (b && nat_lt j i))
    (record-ties (record_at rows j) (record_at rows i))
    ∙ before_by (record_cmp (record_at rows j) (record_at rows i)) j i

is-less : (o : Ordering) → is_lt o ≡ true → o ≡ Less
is-less Less h = refl
is-less Equal h = absurd cc
is-less Greater h = absurd cc

ranks-chain : (rows : Records) (i j k : ℕ) → ranks_before rows i j ≡ true → ranks_before rows j k ≡ true
    → ranks_before rows i k ≡ true
ranks-chain rows i j k h l =
    let first = is-less (place_order rows i j) (sym (before-is rows i j) ∙ h) in
    let second = is-less (place_order rows j k) (sym (before-is rows j k) ∙ l) in
    before-is rows i k ∙ ap is_lt ((place_order-total rows).trans i j k first second)

one_way-by : (o p : Ordering) (i j : ℕ) → i < j → p ≡ ordering_reverse o
    → is_lt (ordering_then o (nat_cmp i j)) ≡ false → is_lt (ordering_then p (nat_cmp j i)) ≡ true
one_way-by Less p i j h e k = absurd cc
one_way-by Equal p i j h e k =
    let past : nat_lt i j ≡ false = sym (lt-nat_cmp i j) ∙ k in
    let under : j ≤ i = grind (arith, nat_tests) in
    absurd (omega arith)
one_way-by Greater p i j h e k = rw e refl

ranks-one_way : (rows : Records) (i j : ℕ) → i < j → ranks_before rows i j ≡ false → ranks_before rows j i ≡ true
ranks-one_way rows i j h k =
    before-is rows j i
    ∙ one_way-by (record_cmp (record_at rows i) (record_at rows j))
    (record_cmp (record_at rows j) (record_at rows i)) i j h
    (record_cmp-total.antisymm (record_at rows j) (record_at rows i)) (sym (before-is rows i j) ∙ k)

count-parts_by : (a l e f t : Bool) → e ≡ f → (e ≡ true → a ≡ true) → (e ≡ true → l ≡ false)
    → one (a && (l || (e && t))) ≡ one (a && l) + one (f && t)
count-parts_by a l true f t h j k = rw (← h, j refl, k refl) (omega arith)
count-parts_by true true false f t h j k = rw (← h) refl
count-parts_by true false false f t h j k = rw (← h) refl
count-parts_by false l false f t h j k = rw (← h) refl

-- the records of r's person that are less than r
abbrev pub less_of : ℕ → Records → List (List ℕ) → ℕ
less_of column rows r = count_by (λ x. is_lt (record_cmp x r)) (group text_eq (cell column) (cell column r) rows)

part-at : (column : ℕ) (x r : List (List ℕ)) (early : Bool) →
    one (text_eq (cell column x) (cell column r) && (is_lt (record_cmp x r) || (record_eq x r && early)))
    ≡ one (text_eq (cell column x) (cell column r) && is_lt (record_cmp x r)) + one (record_eq r x && early)
part-at column x r early =
    count-parts_by (text_eq (cell column x) (cell column r)) (is_lt (record_cmp x r)) (record_eq x r)
    (record_eq r x) early (same-symmetric record_eq record_eq-decides x r)
    (λ e. (text_eq-decides (cell column x) (cell column r)).1 (ap (cell column) ((record_eq-decides x r).0 e)))
    (λ e. let same = (record_eq-decides x r).0 e in rw same (ap is_lt (tied_itself record_cmp-total r)))

-- the rank of a place where r stands: the records of r's person that are less, and the places before that have r
rank-parts : (column : ℕ) (rows : Records) (r : List (List ℕ)) (i : ℕ) → record_at rows i ≡ r →
    rank column rows i ≡ less_of column rows r + count_by (λ j. record_eq r (record_at rows j))
    (range_with_len 0 (min i (length rows)))
unfolding rank
rank-parts column rows r i h =
    let less = λ (x : List (List ℕ)). text_eq (cell column x) (cell column r) && is_lt (record_cmp x r) in
    let equal = λ (j : ℕ). record_eq r (record_at rows j) in
    let split = sum_by-same (λ j. one (same_person column rows j i && ranks_before rows j i))
    (λ j. one (less (record_at rows j)) + one (equal j && nat_lt j i)) (places rows)
    (λ j. rw h (part-at column (record_at rows j) r (nat_lt j i))) in
    let both = sum_by-add (λ j. one (less (record_at rows j))) (λ j. one (equal j && nat_lt j i)) (places rows) in
    let by_record = count_by-map less (record_at rows) (places rows) in
    let all = ap (count_by less) (map-places rows []) in
    let grouped = count_by-filter (λ x. text_eq (cell column x) (cell column r)) (λ x. is_lt (record_cmp x r)) rows in
    let before = count_by-before equal i (length rows) in
    omega arith

lt-shift : (a c m : ℕ) → nat_lt (a + c) m ≡ nat_lt c (m - a)
lt-shift a c m = grind (arith, nat_tests)

kept-at : (keep q small : Bool) → (q ≡ true → keep ≡ small) → (keep && q) ≡ (q && small)
kept-at true true small h = h refl
kept-at false true small h = h refl
kept-at true false small h = refl
kept-at false false small h = refl

-- how often a record stands among those that stay
pub occurrences-truncated : (column most : ℕ) (rows : Records) (r : List (List ℕ))
    → occurrences record_eq (truncated column most rows) r ≡ min (occurrences record_eq rows r)
    (most - less_of column rows r)
unfolding kept_places
occurrences-truncated column most rows r =
    let keep = λ (i : ℕ). nat_lt (rank column rows i) most in
    let equal = λ (i : ℕ). record_eq r (record_at rows i) in
    let few = λ (i : ℕ). nat_lt (count_by equal (range_with_len 0 (min i (length rows))))
    (most - less_of column rows r) in
    let by_place = count_by-map (record_eq r) (record_at rows) (filter keep (places rows)) in
    let both = count_by-filter keep equal (places rows) in
    let turned = count_by-same (λ i. keep i && equal i) (λ i. equal i && few i) (places rows)
    (λ i. kept-at (keep i) (equal i) (few i) (λ e.
    ap (λ (n : ℕ). nat_lt n most) (rank-parts column rows r i (sym ((record_eq-decides r (record_at rows i)).0 e)))
    ∙ lt-shift (less_of column rows r) (count_by equal (range_with_len 0 (min i (length rows)))) most)) in
    let first = count_by-first equal (most - less_of column rows r) (length rows) (length rows) (omega arith) in
    let all = sym (count_by-map (record_eq r) (record_at rows) (places rows))
    ∙ ap (count_by (record_eq r)) (map-places rows []) in
    by_place ∙ both ∙ turned ∙ first ∙ ap (λ (n : ℕ). min n (most - less_of column rows r)) all

-- where the groups of a person are the same in another order, so are the records that stay
stays-same : (column most : ℕ) (xs ys : Records) (person : List ℕ)
    → diff record_eq (group text_eq (cell column) person xs) (group text_eq (cell column) person ys) ≡ 0
    → diff record_eq (group text_eq (cell column) person (truncated column most xs))
    (group text_eq (cell column) person (truncated column most ys)) ≡ 0
stays-same column most xs ys person none =
    let mine = λ (x : List (List ℕ)). text_eq (cell column x) person in
    let order = diff-none record_eq record_eq-decides (filter mine xs) (filter mine ys) none in
    diff-order record_eq record_eq-decides (filter mine (truncated column most xs))
    (filter mine (truncated column most ys))
    (permutation-from record_eq record_eq-decides (filter mine (truncated column most xs))
    (filter mine (truncated column most ys)) (λ r.
    let left = occurrences-filter record_eq record_eq-decides mine (truncated column most xs) r in
    let right = occurrences-filter record_eq record_eq-decides mine (truncated column most ys) r in
    elim (cases_Bool (mine r)) [
      | inl h ↦
          let named : cell column r ≡ person = (text_eq-decides (cell column r) person).0 h in
          let left_all = rw h at (occurrences-filter record_eq record_eq-decides mine xs r) in
          let right_all = rw h at (occurrences-filter record_eq record_eq-decides mine ys r) in
          let often = occurrences-permutation record_eq (filter mine xs) (filter mine ys) r order in
          let less = sum_by-IsPermutation (λ x. one (is_lt (record_cmp x r))) (filter mine xs)
          (filter mine ys) order in
          let left_less : less_of column xs r ≡ count_by (λ x. is_lt (record_cmp x r)) (filter mine xs) =
          ap (λ (k : List ℕ). count_by (λ x. is_lt (record_cmp x r)) (group text_eq (cell column) k xs)) named in
          let right_less : less_of column ys r ≡ count_by (λ x. is_lt (record_cmp x r)) (filter mine ys) =
          ap (λ (k : List ℕ). count_by (λ x. is_lt (record_cmp x r)) (group text_eq (cell column) k ys)) named in
          let left_stay = occurrences-truncated column most xs r in
          let right_stay = occurrences-truncated column most ys r in
          let left_now = rw h at left in
          let right_now = rw h at right in
          let same_often : occurrences record_eq xs r ≡ occurrences record_eq ys r = sym left_all ∙ sym often
          ∙ right_all in
          let same_less : less_of column xs r ≡ less_of column ys r = left_less ∙ sym less ∙ sym right_less in
          left_now ∙ left_stay ∙ rw (same_often, same_less) (sym right_stay) ∙ sym right_now
      | inr h ↦ (rw h at left) ∙ sym (rw h at right)
    ]))

both-true : (a b : Bool) → a ≡ true → b ≡ true → (a && b) ≡ true
both-true true true h k = refl
both-true true false h k = absurd cc
both-true false b h k = absurd cc

same-text : (x y z : List ℕ) → text_eq x z ≡ true → text_eq y z ≡ true → text_eq x y ≡ true
same-text x y z h k = (text_eq-decides x y).1 ((text_eq-decides x z).0 h ∙ sym ((text_eq-decides y z).0 k))

few-from : (column most : ℕ) (rows : Records) (person : List ℕ) (kept : List ℕ) (l : Last (ranks_before rows) kept)
    → All (λ i. text_eq (cell column (record_at rows i)) person ≡ true) kept
    → All (λ i. nat_lt (rank column rows i) most ≡ true) kept
    → ((q : ℕ → Bool) → count_by q kept ≤ count_by q (places rows)) → length kept ≤ most
unfolding rank
few-from column most rows person kept l mine stay part =
    let test = λ (j : ℕ). same_person column rows j l.last && ranks_before rows j l.last in
    let all_mine = All-permutation (λ i. text_eq (cell column (record_at rows i)) person ≡ true) kept
    (l.last ∷ l.rest) l.is mine in
    let last_mine = All-head (λ i. text_eq (cell column (record_at rows i)) person ≡ true) l.last l.rest all_mine in
    let rest_mine = All-tail (λ i. text_eq (cell column (record_at rows i)) person ≡ true) l.last l.rest all_mine in
    let last_stays : nat_lt (rank column rows l.last) most ≡ true =
    All-head (λ i. nat_lt (rank column rows i) most ≡ true) l.last l.rest
    (All-permutation (λ i. nat_lt (rank column rows i) most ≡ true) kept (l.last ∷ l.rest) l.is stay) in
    let passes : All (λ j. test j ≡ true) l.rest = λ k d m.
    both-true (same_person column rows (get_or l.rest k d) l.last) (ranks_before rows (get_or l.rest k d) l.last)
    (same-text (cell column (record_at rows (get_or l.rest k d))) (cell column (record_at rows l.last)) person
    (rest_mine k d m) last_mine) (l.below k d m) in
    let counted = count_by-all test l.rest passes in
    let whole = count_by-cons test l.last l.rest in
    let turned = sum_by-IsPermutation (λ j. one (test j)) kept (l.last ∷ l.rest) l.is in
    let bound = part test in
    let long = length_permutation kept (l.last ∷ l.rest) l.is in
    let under : rank column rows l.last < most = grind (arith, nat_tests) in
    omega arith

few-by : (column most : ℕ) (rows : Records) (person : List ℕ) (kept : List ℕ) → Rising kept
    → All (λ i. text_eq (cell column (record_at rows i)) person ≡ true) kept
    → All (λ i. nat_lt (rank column rows i) most ≡ true) kept
    → ((q : ℕ → Bool) → count_by q kept ≤ count_by q (places rows)) → length kept ≤ most
few-by column most rows person [] rising mine stay part = omega arith
few-by column most rows person (x ∷ xs) rising mine stay part =
    few-from column most rows person (x ∷ xs)
    (last-of (ranks_before rows) (ranks-one_way rows) (ranks-chain rows) x xs rising) mine stay part

-- at most so many records of a person stay
few-stay : (column most : ℕ) (rows : Records) (person : List ℕ)
    → length (group text_eq (cell column) person (truncated column most rows)) ≤ most
unfolding kept_places
few-stay column most rows person =
    let mine = λ (x : List (List ℕ)). text_eq (cell column x) person in
    let keep = λ (i : ℕ). nat_lt (rank column rows i) most in
    let kept = filter keep (places rows) in
    let whole = length-filter mine (map (record_at rows) kept) in
    let by_place = count_by-map mine (record_at rows) kept in
    let counted = length-filter (λ i. mine (record_at rows i)) kept in
    let few = few-by column most rows person (filter (λ i. mine (record_at rows i)) kept)
    (rising-filter (λ i. mine (record_at rows i)) kept
    (rising-filter keep (places rows) (rising-range 0 (length rows))))
    (filter_passes (λ i. mine (record_at rows i)) kept)
    (All-filter (λ i. mine (record_at rows i)) (λ i. keep i ≡ true) kept (filter_passes keep (places rows)))
    (λ q. let one_less = count_by-filter-le (λ i. mine (record_at rows i)) q kept in let other_less =
    count_by-filter-le keep q (places rows) in omega arith) in
    omega arith

-- the records that stay of two lists are apart by at most twice so many for each person that differs
pub truncated-apart : (column most : ℕ) (xs ys : Records)
    → diff record_eq (truncated column most xs) (truncated column most ys) ≤ 2 * most * users_apart column xs ys
truncated-apart column most xs ys =
    few-apart (cell column) text_eq text_eq-decides record_eq record_eq-decides most xs ys (truncated column most xs)
    (truncated column most ys)
    (few-stay column most xs) (few-stay column most ys) (stays-same column most xs ys)

places-all : (P : List (List ℕ) → Type 0) (rows : Records) → All P rows
    → All (λ i. P (record_at rows i)) (places rows)
places-all P rows h = λ k d m.
    let short = length-range_with_len 0 (length rows) in
    let at : get_or (places rows) k d ≡ k = get_or-range_with_len 0 (length rows) k d (omega arith)
    ∙ (let e : 0 + k ≡ k = omega arith in e) in
    subst (λ (i : ℕ). P (record_at rows i)) (sym at) (h k [] (omega arith))

truncate_lands : (column most columns : ℕ) (v : Value) → Has (domain.Rows columns) v
    → Has (domain.Rows columns) (truncate_value column most v)
unfolding kept_places
truncate_lands column most columns (value.Rows rows) has =
    let keep = λ (i : ℕ). nat_lt (rank column rows i) most in
    let long = length-map (filter keep (places rows)) (record_at rows) in
    let kept = length-filter keep (places rows) in
    let few = count_by-le-length keep (places rows) in
    let all = length-range_with_len 0 (length rows) in (
      omega (arith, has.0),
      All-map (λ cells. length cells ≡ columns) (record_at rows) (filter keep (places rows))
          (All-filter keep (λ i. length (record_at rows i) ≡ columns) (places rows)
          (places-all (λ cells. length cells ≡ columns) rows has.1)),
    )
truncate_lands column most columns v has = absurd has

truncate_stable : (column most columns d e : ℕ) (v w : Value) → 2 * most * d ≡ e → Has (domain.Rows columns) v
    → Has (domain.Rows columns) w
    → Within (metrics.Users column) d v w
    → Within metrics.Symmetric e (truncate_value column most v) (truncate_value column most w)
truncate_stable column most columns d e (value.Rows xs) (value.Rows ys) map_is has_v has_w near =
    let bound = truncated-apart column most xs ys in
    let times = mul-le-mul_left {m = users_apart column xs ys} {n = d} (2 * most) near in
    omega arith
truncate_stable column most columns d e (value.Rows xs) w map_is has_v has_w near = absurd has_w
truncate_stable column most columns d e v w map_is has_v has_w near = absurd has_v

pub truncate_law : (column most columns : ℕ) → Fits (domain.Rows columns) → column < columns
    → IsStable (truncate_mapping column most columns)
truncate_law column most columns fits within = record {
  input_fits = fits;
  output_fits = fits;
  suits = (λ _. tt, λ _. within);
  lands = truncate_lands column most columns;
  limited = λ d. capped-le (2 * most * d);
  stable = λ d e v w map_is. truncate_stable column most columns d e v w (capped-same (2 * most * d) e map_is);
}
