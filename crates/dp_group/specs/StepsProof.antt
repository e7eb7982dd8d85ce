-- From records to other records by single steps: those that the others lack are taken away one by one, and those that
-- the others have more are put in one by one. At each step the loss is at most that at the distance 1, and putting the
-- records in another order costs nothing.
use Rattle.std.proofs.Common.{◌≡◌, ℕ, zero, ◌+◌, ◌*◌, ◌≤◌, List, [], ◌∷◌, ◌++◌, length, Some, sym, ◌∙◌, ap, subst, arith, refl}
use Rattle.std.specs.Prelude.{IsPermutation}
use Rattle.std.proofs.Math.Nat.{add-mul, suc-mul, pow-zero}
use Rattle.std.proofs.lemmas.List.Elements.{All-tail}
use Rattle.std.proofs.lemmas.List.Sorted.{All-permutation, length_permutation, IsPermutation-trans, IsPermutation-append_comm, IsPermutation-sym}
use Rattle.dp_count.specs.Ratios.{KeepsRatio}
use Rattle.dp_count.proofs.Ratios.{ratio-same, ratio-chain}
use Rattle.dp_domain.specs.Distance.{diff, record_eq}
use Rattle.dp_domain.specs.Domains.{Has}
use Rattle.dp_domain.specs.Metrics.{Within}
use Rattle.dp_domain.specs.declared.domains.Domain.{Domain}
use Rattle.dp_domain.specs.declared.domains.Domain.TheVariants as domain
use Rattle.dp_domain.specs.declared.metrics.Metric.{Metric}
use Rattle.dp_domain.specs.declared.metrics.Metric.TheVariants as metrics
use Rattle.dp_domain.specs.declared.values.Value.TheVariants as value
use Rattle.dp_domain.proofs.Distance.{diff-order, diff-le-parts, split, split-distance}
use Rattle.dp_domain.proofs.Equality.{record_eq-decides}
use Rattle.dp_domain.proofs.Occurrences.{occurrences-cons}
use Rattle.dp_law.specs.declared.pieces.Piece.{Piece}
use Rattle.dp_law.specs.Mechanism.{Mechanism, ways}
use Rattle.dp_group.specs.GroupedLaw.{Records, AreNear, IsOfRecords, OrderLaw, StepsLaw}

-- records of so many cells each, few enough
abbrev pub HasRows : ℕ → Records → Type 0
HasRows columns xs = Has (domain.Rows columns) (value.Rows xs)

has-order : (columns : ℕ) (xs ys : Records) → IsPermutation xs ys → HasRows columns xs → HasRows columns ys
has-order columns xs ys h has = (
  omega (arith, has.0, length_permutation xs ys h),
  All-permutation (λ cells. length cells ≡ columns) xs ys h has.1,
)

has-fewer : (columns : ℕ) (x : List (List ℕ)) (xs : Records) → HasRows columns (x ∷ xs) → HasRows columns xs
has-fewer columns x xs has = (omega (arith, has.0), All-tail (λ cells. length cells ≡ columns) x xs has.1)

-- a record less, or one more, is one step
one-less : (x : List (List ℕ)) (xs : Records) → diff record_eq (x ∷ xs) xs ≤ 1
one-less x xs =
    diff-le-parts record_eq record_eq-decides (x ∷ xs) xs xs (x ∷ []) []
    (λ e. let c = occurrences-cons record_eq x xs e in let d = occurrences-cons record_eq x [] e in omega arith)
    (λ e. omega arith)

one-more : (x : List (List ℕ)) (xs : Records) → diff record_eq xs (x ∷ xs) ≤ 1
one-more x xs =
    diff-le-parts record_eq record_eq-decides xs (x ∷ xs) xs [] (x ∷ [])
    (λ e. omega arith)
    (λ e. let c = occurrences-cons record_eq x xs e in let d = occurrences-cons record_eq x [] e in omega arith)

within-rows : (metric : Metric) (d : ℕ) (xs ys : Records) → metric ≡ metrics.Symmetric → diff record_eq xs ys ≤ d
    → Within metric d (value.Rows xs) (value.Rows ys)
within-rows metric d xs ys is near =
    subst (λ (n : Metric). Within n d (value.Rows xs) (value.Rows ys)) (sym is) near

module _ (m : Mechanism) (law : IsOfRecords m) (columns : ℕ) (rows : m.input_domain ≡ domain.Rows columns) where
  abbrev AreNearRows : ℕ → List Piece → Records → Records → Type 0
  AreNearRows k answer xs ys = AreNear m k answer (value.Rows xs) (value.Rows ys)

  chain : (j k : ℕ) (answer : List Piece) (xs ys zs : Records) → AreNearRows j answer xs ys
      → AreNearRows k answer ys zs → AreNearRows (j + k) answer xs zs
  chain j k answer xs ys zs = ratio-chain m.ratio.p m.ratio.q j k _ _ _

  pub near-at : (d k : ℕ) (answer : List Piece) (xs ys : Records) → m.privacy_map d ≡ Some k
      → HasRows columns xs → HasRows columns ys → diff record_eq xs ys ≤ d → AreNearRows k answer xs ys
  near-at d k answer xs ys map_is has_xs has_ys near =
      law.private.private d k (value.Rows xs) (value.Rows ys) answer map_is
      (subst (λ (n : Domain). Has n (value.Rows xs)) (sym rows) has_xs)
      (subst (λ (n : Domain). Has n (value.Rows ys)) (sym rows) has_ys)
      (within-rows m.input_metric d xs ys law.symmetric near)

  near-order : (answer : List Piece) (xs ys : Records) → HasRows columns xs → IsPermutation xs ys
      → AreNearRows 0 answer xs ys
  near-order answer xs ys has h =
      near-at 0 0 answer xs ys law.nothing_at_0 has (has-order columns xs ys h has)
      (omega (arith, diff-order record_eq record_eq-decides xs ys h))

  no-step : (once : ℕ) (answer : List Piece) (xs : Records) → AreNearRows (zero * once) answer xs xs
  no-step once answer xs =
      let none : zero * once ≡ 0 = omega arith in
      subst (λ (k : ℕ). AreNearRows k answer xs xs) (sym none)
      (ratio-same m.ratio.p m.ratio.q (ways m (value.Rows xs) answer))

  taken-away : (once : ℕ) (answer : List Piece) (left common : Records) → m.privacy_map 1 ≡ Some once
      → HasRows columns (left ++ common) → AreNearRows (length left * once) answer (left ++ common) common
  taken-away once answer [] common map_is has = no-step once answer common
  taken-away once answer (x ∷ left) common map_is has =
      let xs = left ++ common in
      let fewer = has-fewer columns x xs has in
      let first = near-at 1 once answer (x ∷ xs) xs map_is has fewer (one-less x xs) in
      let rest = taken-away once answer left common map_is fewer in
      let total : once + length left * once ≡ length (x ∷ left) * once = rw suc-mul (omega arith) in
      subst (λ (k : ℕ). AreNearRows k answer (x ∷ xs) common) total
      (chain once (length left * once) answer (x ∷ xs) xs common first rest)

  put-in : (once : ℕ) (answer : List Piece) (right common : Records) → m.privacy_map 1 ≡ Some once
      → HasRows columns (right ++ common) → AreNearRows (length right * once) answer common (right ++ common)
  put-in once answer [] common map_is has = no-step once answer common
  put-in once answer (x ∷ right) common map_is has =
      let xs = right ++ common in
      let fewer = has-fewer columns x xs has in
      let front = put-in once answer right common map_is fewer in
      let last = near-at 1 once answer xs (x ∷ xs) map_is fewer has (one-more x xs) in
      let total : length right * once + once ≡ length (x ∷ right) * once = rw suc-mul (omega arith) in
      subst (λ (k : ℕ). AreNearRows k answer common (x ∷ xs)) total
      (chain (length right * once) once answer common xs (x ∷ xs) front last)

  -- so many steps cost so many times one step
  pub near-steps : (once : ℕ) (answer : List Piece) (xs ys : Records) → m.privacy_map 1 ≡ Some once
      → HasRows columns xs → HasRows columns ys → AreNearRows (diff record_eq xs ys * once) answer xs ys
  near-steps once answer xs ys map_is has_xs has_ys =
      let s = split record_eq record_eq-decides xs ys in
      let us = s.left ++ s.common in
      let vs = s.right ++ s.common in
      let j = length s.left * once in
      let k = length s.right * once in
      let from = IsPermutation-trans xs (s.common ++ s.left) us s.one (IsPermutation-append_comm s.common s.left) in
      let to = IsPermutation-trans ys (s.common ++ s.right) vs s.other (IsPermutation-append_comm s.common s.right) in
      let has_us = has-order columns xs us from has_xs in
      let has_vs = has-order columns ys vs to has_ys in
      let first = near-order answer xs us has_xs from in
      let away = taken-away once answer s.left s.common map_is has_us in
      let back = put-in once answer s.right s.common map_is has_vs in
      let last = near-order answer vs ys has_vs (IsPermutation-sym ys vs to) in
      let path = chain 0 (j + (k + 0)) answer xs us ys first
      (chain j (k + 0) answer us s.common ys away (chain k 0 answer s.common vs ys back last)) in
      let parts = add-mul (length s.left) (length s.right) once in
      let sum : 0 + (j + (k + 0)) ≡ (length s.left + length s.right) * once = omega arith in
      let far = split-distance record_eq record_eq-decides xs ys in
      let total : 0 + (j + (k + 0)) ≡ diff record_eq xs ys * once = sum ∙ ap (λ (n : ℕ). n * once) far in
      subst (λ (n : ℕ). AreNearRows n answer xs ys) total path

-- a domain that has a list of records is one of records
domain-of : (d : Domain) (xs : Records) → Has d (value.Rows xs) → (columns : ℕ) × (d ≡ domain.Rows columns)
domain-of (domain.Rows columns) xs has = (columns, refl)
domain-of d xs has = absurd has

has-at : (d : Domain) (columns : ℕ) (xs : Records) → d ≡ domain.Rows columns → Has d (value.Rows xs)
    → HasRows columns xs
has-at d columns xs is has = subst (λ (n : Domain). Has n (value.Rows xs)) is has

ratio-zero : (p q x y : ℕ) → KeepsRatio p q 0 x y → x ≤ y
ratio-zero p q x y h = let g = rw (pow-zero p, pow-zero q) at h in omega arith

-- the numbers of draw lists do not tell the order
pub order_law : OrderLaw
order_law m xs ys answer law has h =
    let at = domain-of m.input_domain xs has in
    let has_xs = has-at m.input_domain at.0 xs at.1 has in
    let has_ys = has-order at.0 xs ys h has_xs in
    let forth = near-order m law at.0 at.1 answer xs ys has_xs h in
    let back = near-order m law at.0 at.1 answer ys xs has_ys (IsPermutation-sym xs ys h) in
    let least = ratio-zero m.ratio.p m.ratio.q (ways m (value.Rows xs) answer) (ways m (value.Rows ys) answer) forth in
    let most = ratio-zero m.ratio.p m.ratio.q (ways m (value.Rows ys) answer) (ways m (value.Rows xs) answer) back in
    omega arith

pub steps_law : StepsLaw
steps_law m once xs ys answer law map_is has_xs has_ys =
    let at = domain-of m.input_domain xs has_xs in
    near-steps m law at.0 at.1 once answer xs ys map_is (has-at m.input_domain at.0 xs at.1 has_xs)
    (has-at m.input_domain at.0 ys at.1 has_ys)
