-- Resizing is stable.
use Rattle.std.proofs.Common.{◌≡◌, ℕ, ◌+◌, ◌-◌, ◌*◌, ◌^◌, ◌≤◌, ℤ, Bool, true, IsTrue, List, [], ◌∷◌, ◌++◌, length, take, replicate, Some, None, sym, ◌∙◌, ap, inl, inr, append_assoc, arith, length-append, length-take}
use Rattle.std.specs.Prelude.{All, int_le, nat_le, ◌&&◌}
use Rattle.std.specs.Ordering.{int_eq}
use Rattle.std.specs.List.Sorted.{IsPermutation}
use Rattle.std.proofs.lemmas.Int.{ints}
use Rattle.std.proofs.lemmas.Bool.{cases_lt}
use Rattle.std.proofs.lemmas.Bool.Decides.{nat_tests}
use Rattle.std.proofs.lemmas.List.{append-nil, take-append-le, take-replicate, take_all, length-replicate}
use Rattle.std.proofs.Math.Seq.{take-append-add}
use Rattle.std.proofs.lemmas.List.Elements.{All-append, All-take, All-replicate}
use Rattle.std.proofs.lemmas.List.Sorted.{All-permutation, IsPermutation-trans, IsPermutation-append_comm, IsPermutation-refl}
use Rattle.dp_domain.specs.declared.domains.Domain.TheVariants as domain
use Rattle.dp_domain.specs.declared.metrics.Metric.TheVariants as metrics
use Rattle.dp_domain.specs.declared.values.Value.{Value}
use Rattle.dp_domain.specs.declared.values.Value.TheVariants as value
use Rattle.dp_domain.specs.Distance.{diff}
use Rattle.dp_domain.specs.Domains.{Fits, Has, IsBetween}
use Rattle.dp_domain.specs.Metrics.{Within}
use Rattle.dp_domain.proofs.Equality.{int_eq-decides}
use Rattle.dp_domain.proofs.Distance.{diff-symmetric, diff-triangle, diff-order, split, split-distance}
use Rattle.dp_law.specs.Mapping.{IsStable}
use Rattle.dp_law.proofs.Caps.{capped-same, capped-le}
use Rattle.dp_law.proofs.Suits.{both-hold}
use Rattle.dp_domain.proofs.Exchange.{exchange}
use Rattle.dp_aggregate.specs.Resize.{put_in, in_order, resized, resize_value, can_resize, resize_mapping}
use Rattle.dp_aggregate.specs.RisingOrderProof.{put-at, in_order-permutes, in_order-same, length-in_order}

-- the first numbers of the rising order with fill behind it
first_of : ℕ → ℤ → List ℤ → List ℤ
first_of size fill xs = take size (in_order xs ++ replicate size fill)

resized-is : (size : ℕ) (fill : ℤ) (xs : List ℤ) → resized size fill xs ≡ first_of size fill xs
unfolding resized first_of
resized-is size fill xs =
    let long = length-in_order xs in
    elim (cases_lt (length xs) size) [
      | inl short ↦
          let all = take_all size (in_order xs) (omega arith) in
          let sum : size ≡ length (in_order xs) + (size - length xs) = omega arith in
          let behind : take size (in_order xs ++ replicate size fill) ≡ in_order xs ++ take (size - length xs) (replicate size fill) =
          ap (λ (n : ℕ). take n (in_order xs ++ replicate size fill)) sum ∙ take-append-add (in_order xs) (replicate size fill) (size - length xs) in
          let fills = take-replicate (size - length xs) size fill (omega arith) in
          ap (λ (l : List ℤ). l ++ replicate (size - length xs) fill) all ∙ ap (λ (l : List ℤ). in_order xs ++ l) (sym fills) ∙ sym behind
      | inr enough ↦
          let none : size - length xs ≡ 0 = omega arith in
          let cut = take-append-le size (in_order xs) (replicate size fill) (omega arith) in
          ap (λ (n : ℕ). take size (in_order xs) ++ replicate n fill) none ∙ append-nil (take size (in_order xs)) ∙ sym cut
    ]

pub length-resized : (size : ℕ) (fill : ℤ) (xs : List ℤ) → length (resized size fill xs) ≡ size
unfolding resized
length-resized size fill xs =
    omega (arith, length-in_order xs, length-append (take size (in_order xs)) (replicate (size - length xs) fill), length-take size (in_order xs), length-replicate (size - length xs) fill)

All-resized : (P : ℤ → Type 0) (size : ℕ) (fill : ℤ) (xs : List ℤ) → P fill → All P xs → All P (resized size fill xs)
unfolding resized
All-resized P size fill xs h all =
    All-append P (take size (in_order xs)) (replicate (size - length xs) fill)
    (All-take P size (in_order xs) (All-permutation P xs (in_order xs) (in_order-permutes xs) all))
    (All-replicate P (size - length xs) fill h)

-- one number more replaces at most one number of the first
first-exchange : (size : ℕ) (fill x : ℤ) (xs : List ℤ) → diff int_eq (first_of size fill xs) (first_of size fill (x ∷ xs)) ≤ 2
unfolding first_of in_order
first-exchange size fill x xs =
    let p = put-at x (in_order xs) in
    let fills = replicate size fill in
    let without : in_order xs ++ fills ≡ p.before ++ (p.after ++ fills) = ap (λ (l : List ℤ). l ++ fills) p.was ∙ append_assoc p.before p.after fills in
    let with_one : put_in x (in_order xs) ++ fills ≡ p.before ++ x ∷ (p.after ++ fills) = ap (λ (l : List ℤ). l ++ fills) p.is ∙ append_assoc p.before (x ∷ p.after) fills in
    rw (without, with_one) (exchange int_eq int_eq-decides size p.before (p.after ++ fills) x (omega (arith, length-append p.after fills, length-replicate size fill)))

-- so numbers more replace at most as many
first-more : (size : ℕ) (fill : ℤ) (more xs : List ℤ) → diff int_eq (first_of size fill xs) (first_of size fill (more ++ xs)) ≤ 2 * length more
first-more size fill [] xs = let none = diff-order int_eq int_eq-decides (first_of size fill xs) (first_of size fill xs) (IsPermutation-refl (first_of size fill xs)) in omega arith
first-more size fill (x ∷ more) xs =
    let ih = first-more size fill more xs in
    let one_more = first-exchange size fill x (more ++ xs) in
    let way = diff-triangle int_eq int_eq-decides (first_of size fill xs) (first_of size fill (more ++ xs)) (first_of size fill (x ∷ (more ++ xs))) in
    omega arith

first-same : (size : ℕ) (fill : ℤ) (xs ys : List ℤ) → IsPermutation xs ys → first_of size fill xs ≡ first_of size fill ys
unfolding first_of
first-same size fill xs ys h = ap (λ (l : List ℤ). take size (l ++ replicate size fill)) (in_order-same xs ys h)

firsts-apart : (size : ℕ) (fill : ℤ) (xs ys common left right : List ℤ) → IsPermutation xs (common ++ left) → IsPermutation ys (common ++ right) →
    diff int_eq (first_of size fill xs) (first_of size fill ys) ≤ 2 * (length left + length right)
firsts-apart size fill xs ys common left right h k =
    let from_left = first-same size fill xs (left ++ common) (IsPermutation-trans _ _ _ h (IsPermutation-append_comm common left)) in
    let from_right = first-same size fill ys (right ++ common) (IsPermutation-trans _ _ _ k (IsPermutation-append_comm common right)) in
    let to_left = first-more size fill left common in
    let to_right = first-more size fill right common in
    let turned = diff-symmetric int_eq int_eq-decides (first_of size fill common) (first_of size fill (left ++ common)) in
    let way = diff-triangle int_eq int_eq-decides (first_of size fill (left ++ common)) (first_of size fill common) (first_of size fill (right ++ common)) in
    rw (from_left, from_right) (omega arith)

-- resized lists are apart by at most twice the distance
pub resized-apart : (size : ℕ) (fill : ℤ) (xs ys : List ℤ) → diff int_eq (resized size fill xs) (resized size fill ys) ≤ 2 * diff int_eq xs ys
resized-apart size fill xs ys =
    let s = split int_eq int_eq-decides xs ys in
    let apart = firsts-apart size fill xs ys s.common s.left s.right s.one s.other in
    let distance = split-distance int_eq int_eq-decides xs ys in
    rw (resized-is size fill xs, resized-is size fill ys) (omega arith)

resize-parts : (size : ℕ) (a b : Bool) → IsTrue (nat_le 1 size && nat_le size (2 ^ 20) && a && b) → (1 ≤ size) × (size ≤ 2 ^ 20) × (a ≡ true) × (b ≡ true)
resize-parts size a b h = grind (arith, nat_tests)

fill-between : (lo hi fill : ℤ) → int_le lo fill ≡ true → int_le fill hi ≡ true → IsBetween lo hi fill
fill-between lo hi fill h k = (grind (arith, ints), grind (arith, ints))

resize_lands : (lo hi : ℤ) (size : ℕ) (fill : ℤ) → IsBetween lo hi fill → (v : Value) → Has (domain.Ints lo hi None) v → Has (domain.Ints lo hi (Some size)) (resize_value size fill v)
resize_lands lo hi size fill between (value.Ints xs) has = (length-resized size fill xs, All-resized (IsBetween lo hi) size fill xs between has.1)
resize_lands lo hi size fill between v has = absurd has

resize_stable : (size : ℕ) (fill : ℤ) (d e : ℕ) (lo hi : ℤ) (v w : Value) → d ≡ e → Has (domain.Ints lo hi None) v → Has (domain.Ints lo hi None) w
    → Within metrics.Symmetric d v w → Within metrics.ChangeOne e (resize_value size fill v) (resize_value size fill w)
resize_stable size fill d e lo hi (value.Ints xs) (value.Ints ys) map_is has_v has_w near =
    let apart = resized-apart size fill xs ys in
    (length-resized size fill xs ∙ sym (length-resized size fill ys), omega (arith, near, apart))
resize_stable size fill d e lo hi (value.Ints xs) w map_is has_v has_w near = absurd has_w
resize_stable size fill d e lo hi v w map_is has_v has_w near = absurd has_v

pub resize_law : (lo hi : ℤ) (size : ℕ) (fill : ℤ) → Fits (domain.Ints lo hi None) → IsTrue (can_resize lo hi size fill) → IsStable (resize_mapping lo hi size fill)
resize_law lo hi size fill input good =
    let parts = resize-parts size (int_le lo fill) (int_le fill hi) good in
    record {
      input_fits = input;
      output_fits = (input.0, (parts.0, parts.1));
      suits = both-hold tt tt;
      lands = resize_lands lo hi size fill (fill-between lo hi fill parts.2 parts.3);
      limited = capped-le;
      stable = λ d e v w map_is. resize_stable size fill d e lo hi v w (capped-same d e map_is);
    }
