-- One measurement on each group of records is private at the loss of one group: each group's answers keep the ratio at
-- the distance of the two groups times the loss at 1, and the groups are together no further apart than the records.
use Rattle.std.proofs.Common.{◌≡◌, ℕ, ◌*◌, ◌^◌, ◌≤◌, Bool, true, false, cond, ◌&&◌, ◌||◌, List, [], ◌∷◌, map, length, Option, Some, refl, sym, ◌∙◌, ap, subst, arith, inl, inr}
use Rattle.std.specs.Prelude.{not, nat_le, option_and_then, ◌==◌}
use Rattle.std.specs.List.{All, repeat, sum_by, list_any}
use Rattle.std.proofs.Math.Nat.{add-mul, mul-le-mul_right}
use Rattle.std.proofs.lemmas.Bool.{cases_Bool}
use Rattle.std.proofs.lemmas.Bool.Decides.{nat_tests}
use Rattle.std.proofs.lemmas.List.{length-map}
use Rattle.std.proofs.lemmas.List.Elements.{All-cons, All-nil}
use Rattle.std.proofs.lemmas.List.Sums.{sum_by-cons}
use Rattle.dp_count.specs.DrawLists.{IsDrawList}
use Rattle.dp_count.proofs.Ratios.{ratio-more}
use Rattle.dp_count.proofs.Repeats.{length-repeat, All-repeat}
use Rattle.dp_num.specs.Limits.{capped}
use Rattle.dp_domain.specs.Distance.{diff, occurrences, text_eq, record_eq}
use Rattle.dp_domain.specs.Domains.{Fits, Has, few_and_one}
use Rattle.dp_domain.specs.Metrics.{Within}
use Rattle.dp_domain.specs.Users.{cell, group}
use Rattle.dp_domain.specs.declared.domains.Domain.{Domain}
use Rattle.dp_domain.specs.declared.domains.Domain.TheVariants as domain
use Rattle.dp_domain.specs.declared.metrics.Metric.{Metric}
use Rattle.dp_domain.specs.declared.metrics.Metric.TheVariants as metrics
use Rattle.dp_domain.specs.declared.values.Value.{Value}
use Rattle.dp_domain.specs.declared.values.Value.TheVariants as value
use Rattle.dp_domain.proofs.Distance.{diff-filter}
use Rattle.dp_domain.proofs.Equality.{text_eq-decides, record_eq-decides}
use Rattle.dp_domain.proofs.Groups.{part-sum}
use Rattle.dp_domain.proofs.Occurrences.{one, occurrences-cons, sum_by-zero}
use Rattle.dp_law.specs.declared.pieces.Piece.{Piece}
use Rattle.dp_law.specs.Mechanism.{Mechanism, IsBound, ways}
use Rattle.dp_law.proofs.Caps.{capped-same, capped-le}
use Rattle.dp_law.proofs.ChainingLaw.{and_then-parts}
use Rattle.dp_rowwise.specs.Categories.{are_different}
use Rattle.dp_rowwise.specs.Columns.{HasColumn}
use Rattle.dp_rowwise.specs.Filter.{filter_value}
use Rattle.dp_rowwise.specs.FilterProof.{filter_law}
use Rattle.dp_group.specs.AnswersProof.{ways-cons, near-answers, answers-whole}
use Rattle.dp_group.specs.Grouped.{groups_of, grouped_loss, grouped}
use Rattle.dp_group.specs.GroupedLaw.{Records, AreNear, IsOfRecords, GroupedWaysLaw, GroupedPrivateLaw}
use Rattle.dp_group.specs.StepsProof.{HasRows, near-at, near-steps}

-- Texts that are all different.

none-there : (a b : Bool) → not (a || b) ≡ true → (a ≡ false) × (b ≡ false)
none-there true b h = absurd cc
none-there false true h = absurd cc
none-there false false h = (refl, refl)

pub both-true : (a b : Bool) → (a && b) ≡ true → (a ≡ true) × (b ≡ true)
both-true true b h = (refl, h)
both-true false b h = absurd cc

not-there : (text : List ℕ) (texts : List (List ℕ)) → not (list_any (text_eq text) texts) ≡ true
    → occurrences text_eq texts text ≡ 0
not-there text [] h = refl
not-there text (other ∷ texts) h =
    let parts = none-there (text_eq text other) (list_any (text_eq text) texts) h in
    let rest = not-there text texts (rw parts.1 refl) in
    let here : one (text_eq text other) ≡ 0 = rw parts.0 refl in
    rw (occurrences-cons text_eq other texts text) (omega arith)

at-most-once : (texts : List (List ℕ)) → are_different texts ≡ true → (k : List ℕ) → occurrences text_eq texts k ≤ 1
unfolding are_different
at-most-once [] h k = omega arith
at-most-once (text ∷ texts) h k =
    let parts = both-true (not (list_any (text_eq text) texts)) (are_different texts) h in
    let ih = at-most-once texts parts.1 k in
    rw (occurrences-cons text_eq text texts k) (elim (cases_Bool (text_eq k text)) [
      | inl e ↦
          let same : k ≡ text = (text_eq-decides k text).0 e in
          let none : occurrences text_eq texts k ≡ 0 =
          subst (λ (t : List ℕ). occurrences text_eq texts t ≡ 0) (sym same) (not-there text texts parts.0) in
          rw e (omega arith)
      | inr e ↦ rw e (omega arith)
    ])

-- Groups.

rows-of : (d : Domain) (column : ℕ) → HasColumn d column → (columns : ℕ) × (d ≡ domain.Rows columns)
rows-of (domain.Rows columns) column has = (columns, refl)
rows-of d column has = absurd has

rows-in : (columns : ℕ) (v : Value) → Has (domain.Rows columns) v → (xs : Records) × (v ≡ value.Rows xs)
rows-in columns (value.Rows xs) has = (xs, refl)
rows-in columns v has = absurd has

group-has : (d : Domain) (columns column : ℕ) (text : List ℕ) (v : Value) → d ≡ domain.Rows columns → Fits d → Has d v
    → Has d (filter_value column text v)
group-has d columns column text v rows fits has =
    let fits_rows = subst (λ (n : Domain). Fits n) rows fits in
    let stable = filter_law column text columns metrics.Symmetric fits_rows in
    subst (λ (n : Domain). Has n (filter_value column text v)) (sym rows)
    (stable.lands v (subst (λ (n : Domain). Has n v) rows has))

All-map-each : {X Y : Type 0} (P : Y → Type 0) (f : X → Y) (xs : List X) → ((x : X) → P (f x)) → All P (map f xs)
All-map-each P f [] h = All-nil P
All-map-each P f (x ∷ xs) h = All-cons P (f x) (map f xs) (h x) (All-map-each P f xs h)

-- the groups of a value of a domain that has the column are in the domain
pub groups-have : (d : Domain) (column : ℕ) (texts : List (List ℕ)) (v : Value) → HasColumn d column → Fits d → Has d v
    → All (Has d) (groups_of column texts v)
groups-have d column texts v within fits has =
    let at = rows-of d column within in
    All-map-each (Has d) (λ text. filter_value column text v) texts
    (λ text. group-has d at.0 column text v at.1 fits has)

-- a sum of products by one number
sum_by-times : {K : Type 0} (f : K → ℕ) (n : ℕ) (keys : List K) → sum_by (λ k. f k * n) keys ≡ sum_by f keys * n
sum_by-times f n [] = omega arith
sum_by-times f n (key ∷ keys) =
    let whole = sum_by-cons (λ k. f k * n) key keys in
    let parts = sum_by-cons f key keys in
    let ih = sum_by-times f n keys in
    let spread = add-mul (f key) (sum_by f keys) n in
    rw (whole, parts) (omega arith)

module _ (m : Mechanism) (law : IsOfRecords m) (columns : ℕ) (rows : m.input_domain ≡ domain.Rows columns) (column : ℕ)
    (texts : List (List ℕ)) (different : are_different texts ≡ true) where
  -- the records of a text
  abbrev part : Records → List ℕ → Records
  part xs text = group text_eq (cell column) text xs

  -- how far apart the records of a text are
  abbrev gap : Records → Records → List ℕ → ℕ
  gap xs ys text = diff record_eq (part xs text) (part ys text)

  abbrev AreNearParts : ℕ → List Piece → Records → Records → List ℕ → Type 0
  AreNearParts k answer xs ys text = AreNear m k answer (value.Rows (part xs text)) (value.Rows (part ys text))

  abbrev AreNearGrouped : ℕ → List Piece → Value → Value → Type 0
  AreNearGrouped k answer v w = AreNear (grouped column texts m) k answer v w

  has-group : (xs : Records) → Has m.input_domain (value.Rows xs) → (text : List ℕ)
      → Has m.input_domain (value.Rows (part xs text))
  has-group xs has text = group-has m.input_domain columns column text (value.Rows xs) rows law.private.input_fits has

  has-part : (xs : Records) → Has m.input_domain (value.Rows xs) → (text : List ℕ) → HasRows columns (part xs text)
  has-part xs has text = subst (λ (d : Domain). Has d (value.Rows (part xs text))) rows (has-group xs has text)

  -- each group's answers keep the ratio at an exponent of its own, and so the joined ones at the sum
  near-groups : (exponent : List ℕ → ℕ) (xs ys : Records) → Has m.input_domain (value.Rows xs)
      → Has m.input_domain (value.Rows ys)
      → ((text : List ℕ) (answer : List Piece) → AreNearParts (exponent text) answer xs ys text)
      → (answer : List Piece) → AreNearGrouped (sum_by exponent texts) answer (value.Rows xs) (value.Rows ys)
  unfolding ways
  near-groups exponent xs ys has_xs has_ys near answer =
      let one_of = λ (text : List ℕ). filter_value column text (value.Rows xs) in
      let other_of = λ (text : List ℕ). filter_value column text (value.Rows ys) in
      let n = length-map texts one_of in
      let k = length-map texts other_of in
      let whole = near-answers m law.private exponent one_of other_of texts (has-group xs has_xs) (has-group ys has_ys)
      near answer in
      rw (n, k) at whole

  -- nothing is lost at the distance 0
  near-at-0 : (answer : List Piece) (xs ys : Records) → Has m.input_domain (value.Rows xs)
      → Has m.input_domain (value.Rows ys) → diff record_eq xs ys ≤ 0
      → AreNearGrouped 0 answer (value.Rows xs) (value.Rows ys)
  near-at-0 answer xs ys has_xs has_ys near =
      let all = near-groups (λ text. 0) xs ys has_xs has_ys (λ text a.
      let apart = diff-filter record_eq record_eq-decides (λ cells. text_eq (cell column cells) text) xs ys in
      near-at m law columns rows 0 0 a (part xs text) (part ys text) law.nothing_at_0 (has-part xs has_xs text)
      (has-part ys has_ys text) (omega arith)) answer in
      subst (λ (k : ℕ). AreNearGrouped k answer (value.Rows xs) (value.Rows ys)) (sum_by-zero texts) all

  -- and else the distance times the loss at 1
  near-far : (d once : ℕ) (answer : List Piece) (xs ys : Records) → m.privacy_map 1 ≡ Some once
      → Has m.input_domain (value.Rows xs) → Has m.input_domain (value.Rows ys) → diff record_eq xs ys ≤ d
      → AreNearGrouped (d * once) answer (value.Rows xs) (value.Rows ys)
  near-far d once answer xs ys map_is has_xs has_ys near =
      let exponent = λ (text : List ℕ). gap xs ys text * once in
      let all = near-groups exponent xs ys has_xs has_ys (λ text a.
      near-steps m law columns rows once a (part xs text) (part ys text) map_is (has-part xs has_xs text)
      (has-part ys has_ys text)) answer in
      let total = sum_by-times (gap xs ys) once texts in
      let few = part-sum (cell column) text_eq text_eq-decides record_eq record_eq-decides xs ys texts
      (at-most-once texts different) in
      let most = mul-le-mul_right {m = sum_by (gap xs ys) texts} {n = d} once (omega arith) in
      let below = law.private.below_one.1 in
      ratio-more m.ratio.p m.ratio.q (sum_by exponent texts) (d * once) _ _ (omega arith) (omega arith) all

  grouped-near : (d k : ℕ) (answer : List Piece) (xs ys : Records) (none : Bool) → (d == 0) ≡ none
      → cond none (Some 0) (option_and_then (λ once. capped (d * once)) (m.privacy_map 1)) ≡ Some k
      → Has m.input_domain (value.Rows xs) → Has m.input_domain (value.Rows ys) → diff record_eq xs ys ≤ d
      → AreNearGrouped k answer (value.Rows xs) (value.Rows ys)
  grouped-near d k answer xs ys true at map_is has_xs has_ys near =
      let zero_d : d ≡ 0 = grind (arith, nat_tests) in
      let zero_k : 0 ≡ k = cc in
      subst (λ (n : ℕ). AreNearGrouped n answer (value.Rows xs) (value.Rows ys)) zero_k
      (near-at-0 answer xs ys has_xs has_ys (omega arith))
  grouped-near d k answer xs ys false at map_is has_xs has_ys near =
      let parts = and_then-parts (m.privacy_map 1) (λ once. capped (d * once)) k map_is in
      subst (λ (n : ℕ). AreNearGrouped n answer (value.Rows xs) (value.Rows ys)) (capped-same (d * parts.0) k parts.2)
      (near-far d parts.0 answer xs ys parts.1 has_xs has_ys near)

  rows-near : (metric : Metric) (d : ℕ) (xs ys : Records) → metric ≡ metrics.Symmetric
      → Within metric d (value.Rows xs) (value.Rows ys) → diff record_eq xs ys ≤ d
  rows-near metric d xs ys is near = subst (λ (n : Metric). Within n d (value.Rows xs) (value.Rows ys)) is near

  grouped-rows : (d k : ℕ) (answer : List Piece) (v w : Value) (xs ys : Records) → v ≡ value.Rows xs → w ≡ value.Rows ys
      → grouped_loss m.privacy_map d ≡ Some k → Has m.input_domain v → Has m.input_domain w
      → Within m.input_metric d v w → AreNearGrouped k answer v w
  grouped-rows d k answer v w xs ys is_v is_w map_is has_v has_w near =
      let has_xs = subst (λ (u : Value). Has m.input_domain u) is_v has_v in
      let has_ys = subst (λ (u : Value). Has m.input_domain u) is_w has_w in
      let from_xs = subst (λ (u : Value). Within m.input_metric d u w) is_v near in
      let close = subst (λ (u : Value). Within m.input_metric d (value.Rows xs) u) is_w from_xs in
      let near_rows = grouped-near d k answer xs ys (d == 0) refl map_is has_xs has_ys
      (rows-near m.input_metric d xs ys law.symmetric close) in
      subst (λ (u : Value). AreNearGrouped k answer v u) (sym is_w)
      (subst (λ (u : Value). AreNearGrouped k answer u (value.Rows ys)) (sym is_v) near_rows)

  grouped-private : (d k : ℕ) (v w : Value) (answer : List Piece) → grouped_loss m.privacy_map d ≡ Some k
      → Has m.input_domain v → Has m.input_domain w → Within m.input_metric d v w → AreNearGrouped k answer v w
  grouped-private d k v w answer map_is has_v has_w near =
      let xs = rows-in columns v (subst (λ (n : Domain). Has n v) rows has_v) in
      let ys = rows-in columns w (subst (λ (n : Domain). Has n w) rows has_w) in
      grouped-rows d k answer v w xs.0 ys.0 xs.1 ys.1 map_is has_v has_w near

-- The law.

loss-le : (loss : ℕ → Option ℕ) (d k : ℕ) (none : Bool)
    → cond none (Some 0) (option_and_then (λ once. capped (d * once)) (loss 1)) ≡ Some k → k ≤ 2 ^ 32
loss-le loss d k true h = let zero_k : 0 ≡ k = cc in omega arith
loss-le loss d k false h =
    let parts = and_then-parts (loss 1) (λ once. capped (d * once)) k h in
    capped-le (d * parts.0) k parts.2

few-texts : (n : ℕ) → few_and_one n ≡ true → n ≤ 1023
few-texts n h =
    let parts = both-true (nat_le 1 n) (nat_le n 1023) h in
    let le = parts.1 in
    grind (arith, nat_tests)

few-times : (n k : ℕ) → n ≤ 1023 → k ≤ 2 ^ 20 → n * k ≤ 2 ^ 30
few-times n k h l =
    let times = mul-le-mul_right {m = n} {n = 1023} k h in
    omega arith

pub grouped_law : GroupedPrivateLaw
grouped_law column texts m law has few_draws few_pieces are_texts =
    let at = rows-of m.input_domain column has in
    let parts = both-true (few_and_one (length texts)) (are_different texts) are_texts in
    let few = few-texts (length texts) parts.0 in
    record {
      input_fits = law.private.input_fits;
      input_suits = law.private.input_suits;
      below_one = law.private.below_one;
      few_draws =
          let times = few-times (length texts) (length m.shape) few few_draws in
          rw (length-repeat (length texts) m.shape) (omega arith);
      bounds = All-repeat IsBound (length texts) m.shape law.private.bounds;
      few_pieces = omega (arith, few-times (length texts) m.pieces few few_pieces);
      whole = λ v draws has_v fits.
          let values = groups_of column texts v in
          let n = length-map texts (λ text. filter_value column text v) in
          let have = groups-have m.input_domain column texts v has law.private.input_fits has_v in
          let fits_values = subst (λ (k : ℕ). IsDrawList (repeat k m.shape) draws) (sym n) fits in
          answers-whole m law.private values draws have fits_values ∙ ap (λ (k : ℕ). k * m.pieces) n;
      limited = λ d k map_is. loss-le m.privacy_map d k (d == 0) map_is;
      private = grouped-private m law at.0 at.1 column texts parts.1;
    }

pub ways_law : GroupedWaysLaw
unfolding ways
ways_law column text texts m v answer law has =
    let n = length-map texts (λ other. filter_value column other v) in
    let whole = ways-cons m law (filter_value column text v) (groups_of column texts v) answer has in
    rw n at whole
