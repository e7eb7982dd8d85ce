-- The number of draw lists with the wanted replies of several slots.
use Rattle.std.proofs.Common.{◌≡◌, ℕ, ◌*◌, Bool, ◌&&◌, List, [], ◌∷◌, ◌++◌, length, take, drop, refl, ◌∙◌, ap}
use Rattle.std.specs.Cmp.Lexicographic.{pointwise}
use Rattle.dp_count.specs.DrawLists.{count}
use Rattle.dp_count.specs.Slots.{Slot, joined_shape, replies, product_of_ways, SlotsKeepRatios}
use Rattle.dp_count.proofs.DrawLists.{take-draws, drop-draws}
use Rattle.dp_count.proofs.Ratios.{ratio-same, ratio-none, ratio-both}
use Rattle.std.proofs.lemmas.List.Sums.{sum_by-cons}
use Rattle.std.specs.List.{sum}
use Rattle.dp_count.specs.Ratios.{KeepsRatio}
use Rattle.dp_count.proofs.Counting.{count-append, count-never}

pub count-cut : (front back : List ℕ) (one other : List ℕ → Bool) →
    count (front ++ back) (λ d. one (take (length front) d) && other (drop (length front) d)) ≡ count front one * count back other
count-cut front back one other =
    count-append front back _ one other (λ d e f g. rw (take-draws front d e f, drop-draws front d e f) refl)

pub count-replies : {R : Type 0} (same : R → R → Bool) (slots : List (Slot R)) (wanted : List R) →
    count (joined_shape slots) (λ draws. pointwise same (replies slots draws) wanted) ≡ product_of_ways same slots wanted
unfolding joined_shape replies product_of_ways count
count-replies same [] [] = refl
count-replies same [] (reply ∷ wanted) = refl
count-replies same (slot ∷ slots) [] = count-never (slot.shape ++ joined_shape slots) _ (λ d _. refl)
count-replies same (slot ∷ slots) (reply ∷ wanted) =
    count-cut slot.shape (joined_shape slots) (λ d. same (slot.out d) reply) (λ d. pointwise same (replies slots d) wanted)
    ∙ ap (λ n. count slot.shape (λ d. same (slot.out d) reply) * n) (count-replies same slots wanted)

product-ratio : {R : Type 0} (same : R → R → Bool) (p q : ℕ) (ks : List ℕ) (slots others : List (Slot R)) (wanted : List R) → SlotsKeepRatios same p q ks slots others →
    KeepsRatio p q (sum ks) (product_of_ways same slots wanted) (product_of_ways same others wanted)
unfolding SlotsKeepRatios product_of_ways
product-ratio same p q [] [] [] [] h = ratio-same p q 1
product-ratio same p q [] [] [] (reply ∷ wanted) h = ratio-none p q 0 0
product-ratio same p q (k ∷ ks) (slot ∷ slots) (other ∷ others) [] h = ratio-none p q (sum (k ∷ ks)) 0
product-ratio same p q (k ∷ ks) (slot ∷ slots) (other ∷ others) (reply ∷ wanted) h =
    rw (sum_by-cons (λ n. n) k ks) (ratio-both p q k (sum ks) _ _ _ _ (h.0 reply) (product-ratio same p q ks slots others wanted h.1))
product-ratio same p q [] [] (other ∷ others) wanted h = absurd h
product-ratio same p q [] (slot ∷ slots) others wanted h = absurd h
product-ratio same p q (k ∷ ks) [] others wanted h = absurd h
product-ratio same p q (k ∷ ks) (slot ∷ slots) [] wanted h = absurd h

pub replies-ratio : {R : Type 0} (same : R → R → Bool) (p q : ℕ) (ks : List ℕ) (slots others : List (Slot R)) (wanted : List R) → SlotsKeepRatios same p q ks slots others →
    KeepsRatio p q (sum ks) (count (joined_shape slots) (λ draws. pointwise same (replies slots draws) wanted)) (count (joined_shape others) (λ draws. pointwise same (replies others draws) wanted))
replies-ratio same p q ks slots others wanted h =
    rw (count-replies same slots wanted, count-replies same others wanted) (product-ratio same p q ks slots others wanted h)
