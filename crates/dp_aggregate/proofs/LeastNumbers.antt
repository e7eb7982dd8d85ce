-- Resizing parts a list into its least numbers and the rest.
use Rattle.std.proofs.Common.{◌≡◌, ℤ, ◌≤ℤ◌, List, [], ◌∷◌, ◌++◌, length, take, drop, min, refl, sym, ◌∙◌, ap, subst}
use Rattle.std.specs.Prelude.{All}
use Rattle.std.specs.List.Sorted.{IsPermutation}
use Rattle.std.proofs.lemmas.List.{take-append-drop, length-take}
use Rattle.std.proofs.Math.Seq.{take-append_seam, drop-append_seam}
use Rattle.std.proofs.lemmas.List.Elements.{All-nil, All-cons, All-take, All-drop}
use Rattle.dp_aggregate.specs.Resize.{in_order, resized}
use Rattle.dp_aggregate.specs.ResizeLaw.{Rises, OrderLaw, ResizeLaw}
use Rattle.dp_aggregate.specs.ResizeProof.{length-resized}
use Rattle.dp_aggregate.specs.RisingOrderProof.{in_order-rises, in_order-permutes, length-in_order}

pub order-law : OrderLaw
order-law xs = (in_order-rises xs, in_order-permutes xs)

front-of : (P : ℤ → Type 0) (xs ys : List ℤ) → All P (xs ++ ys) → All P xs
front-of P xs ys all = subst (All P) (take-append_seam xs ys) (All-take P (length xs) (xs ++ ys) all)

back-of : (P : ℤ → Type 0) (xs ys : List ℤ) → All P (xs ++ ys) → All P ys
back-of P xs ys all = subst (All P) (drop-append_seam xs ys) (All-drop P (length xs) (xs ++ ys) all)

-- the front of a list that rises does so too
front-rises : (xs ys : List ℤ) → Rises (xs ++ ys) → Rises xs
front-rises [] ys h = tt
front-rises (x ∷ xs) ys h = (front-of (λ y. x ≤ℤ y) xs ys h.0, front-rises xs ys h.1)

-- .. and is at most the back
front-lowest : (xs ys : List ℤ) → Rises (xs ++ ys) → All (λ x. All (λ y. x ≤ℤ y) ys) xs
front-lowest [] ys h = All-nil (λ x. All (λ y. x ≤ℤ y) ys)
front-lowest (x ∷ xs) ys h = All-cons (λ x. All (λ y. x ≤ℤ y) ys) x xs (back-of (λ y. x ≤ℤ y) xs ys h.0) (front-lowest xs ys h.1)

pub resize-law : ResizeLaw
unfolding resized
resize-law size fill xs =
    let parts : take size (in_order xs) ++ drop size (in_order xs) ≡ in_order xs = take-append-drop size (in_order xs) in
    let rising : Rises (take size (in_order xs) ++ drop size (in_order xs)) = subst Rises (sym parts) (in_order-rises xs) in
    record {
      least = take size (in_order xs);
      rest = drop size (in_order xs);
      parted = subst (IsPermutation xs) (sym parts) (in_order-permutes xs);
      as_many = length-take size (in_order xs) ∙ ap (min size) (length-in_order xs);
      lowest = front-lowest (take size (in_order xs)) (drop size (in_order xs)) rising;
      rises = front-rises (take size (in_order xs)) (drop size (in_order xs)) rising;
      filled = refl;
      sized = length-resized size fill xs;
    }
