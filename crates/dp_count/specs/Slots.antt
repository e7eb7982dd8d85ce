-- Several replies made side by side: each slot has a shape of its own and a reply by its own part of the draws.
use Rattle.std.specs.Prelude.{◌≡◌, ℕ, ◌*◌, Bool, List, [], ◌∷◌, ◌++◌, length, take, drop}
use Rattle.std.specs.List.{sum}
use Rattle.std.specs.Cmp.Lexicographic.{pointwise}
use Rattle.dp_count.specs.DrawLists.{count}
use Rattle.dp_count.specs.Ratios.{KeepsRatio}

-- what a slot draws, and what it replies to its draws
pub record Slot (R : Type 0) : Type 0 where
  pub shape : List ℕ
  pub out : List ℕ → R

-- the shapes of the slots, joined in order
unfoldable pub joined_shape : {R : Type 0} → List (Slot R) → List ℕ
joined_shape [] = []
joined_shape (slot ∷ slots) = slot.shape ++ joined_shape slots

-- the slots' replies in order, each by its own part of the draws
unfoldable pub replies : {R : Type 0} → List (Slot R) → List ℕ → List R
replies [] draws = []
replies (slot ∷ slots) draws =
    slot.out (take (length slot.shape) draws) ∷ replies slots (drop (length slot.shape) draws)

-- how many draw lists of a slot give the reply
abbrev pub slot_ways : {R : Type 0} → (R → R → Bool) → Slot R → R → ℕ
slot_ways same slot wanted = count slot.shape (λ draws. same (slot.out draws) wanted)

-- the product of the slots' numbers; 0 where there are not as many slots as replies
unfoldable pub product_of_ways : {R : Type 0} → (R → R → Bool) → List (Slot R) → List R → ℕ
product_of_ways same [] [] = 1
product_of_ways same [] (reply ∷ wanted) = 0
product_of_ways same (slot ∷ slots) [] = 0
product_of_ways same (slot ∷ slots) (reply ∷ wanted) = slot_ways same slot reply * product_of_ways same slots wanted

-- two lists of as many slots: at each place, every reply's two numbers keep the ratio at the exponent there
unfoldable pub SlotsKeepRatios : {R : Type 0} → (R → R → Bool) → ℕ → ℕ → List ℕ → List (Slot R) → List (Slot R)
    → Type 0
SlotsKeepRatios same p q [] [] [] = Unit {0}
SlotsKeepRatios same p q (k ∷ ks) (slot ∷ slots) (other ∷ others) =
    ((reply : _) → KeepsRatio p q k (slot_ways same slot reply) (slot_ways same other reply))
    × SlotsKeepRatios same p q ks slots others
SlotsKeepRatios same p q _ _ _ = ⊥

-- the wanted replies of all slots: the product of the slots' numbers
abbrev pub SlotsLaw : Type 0 → Type 0
SlotsLaw R = (same : R → R → Bool) (slots : List (Slot R)) (wanted : List R)
    → count (joined_shape slots) (λ draws. pointwise same (replies slots draws) wanted)
    ≡ product_of_ways same slots wanted

-- slots that keep a ratio at each place: their numbers for the same replies keep it at the sum of the exponents
abbrev pub SlotsRatioLaw : Type 0 → Type 0
SlotsRatioLaw R =
    (same : R → R → Bool) (p q : ℕ) (ks : List ℕ) (slots others : List (Slot R)) (wanted : List R)
    → SlotsKeepRatios same p q ks slots others
    → KeepsRatio p q (sum ks) (count (joined_shape slots) (λ draws. pointwise same (replies slots draws) wanted))
    (count (joined_shape others) (λ draws. pointwise same (replies others draws) wanted))
