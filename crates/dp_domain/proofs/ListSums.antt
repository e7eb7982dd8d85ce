-- Between which numbers the sum of a list of numbers is.
use Rattle.std.proofs.Common.{◌≡◌, suc, ℤ, pos, ◌+ℤ◌, ◌*ℤ◌, ◌≤ℤ◌, List, [], ◌∷◌, length, fold, arith}
use Rattle.std.specs.Prelude.{All}
use Rattle.std.proofs.Math.IntN.{suc_ℤ-*ℤ, zero-*ℤ}
use Rattle.std.proofs.lemmas.Int.{ints}
use Rattle.std.proofs.lemmas.List.Elements.{All-head, All-tail}
use Rattle.dp_domain.specs.Domains.{IsBetween}
use Rattle.dp_domain.specs.Sums.{int_sum}

low-step : (a x lo p q s : ℤ) → q ≡ p +ℤ lo → lo ≤ℤ x → ((a +ℤ x) +ℤ p) ≤ℤ s → (a +ℤ q) ≤ℤ s
low-step a x lo p q s e h k = omega (arith, ints)

high-step : (a x hi p q s : ℤ) → q ≡ p +ℤ hi → x ≤ℤ hi → s ≤ℤ ((a +ℤ x) +ℤ p) → s ≤ℤ (a +ℤ q)
high-step a x hi p q s e h k = omega (arith, ints)

none-low : (a p : ℤ) → p ≡ pos 0 → (a +ℤ p) ≤ℤ a
none-low a p e = omega (arith, ints)

none-high : (a p : ℤ) → p ≡ pos 0 → a ≤ℤ (a +ℤ p)
none-high a p e = omega (arith, ints)

-- the sum of numbers from lo to hi, added to a
fold-between : (lo hi a : ℤ) (xs : List ℤ) → All (IsBetween lo hi) xs → ((a +ℤ (pos (length xs) *ℤ lo)) ≤ℤ fold ◌+ℤ◌ a xs) × (fold ◌+ℤ◌ a xs ≤ℤ (a +ℤ (pos (length xs) *ℤ hi)))
fold-between lo hi a [] h = (none-low a (pos 0 *ℤ lo) (zero-*ℤ lo), none-high a (pos 0 *ℤ hi) (zero-*ℤ hi))
fold-between lo hi a (x ∷ xs) h =
    let head = All-head (IsBetween lo hi) x xs h in
    let ih = fold-between lo hi (a +ℤ x) xs (All-tail (IsBetween lo hi) x xs h) in
    let s = fold ◌+ℤ◌ (a +ℤ x) xs in (
      low-step a x lo (pos (length xs) *ℤ lo) (pos (suc (length xs)) *ℤ lo) s (suc_ℤ-*ℤ (pos (length xs)) lo) head.0 ih.0,
      high-step a x hi (pos (length xs) *ℤ hi) (pos (suc (length xs)) *ℤ hi) s (suc_ℤ-*ℤ (pos (length xs)) hi) head.1 ih.1,
    )

from-zero-low : (p s : ℤ) → (pos 0 +ℤ p) ≤ℤ s → p ≤ℤ s
from-zero-low p s h = omega (arith, ints)

from-zero-high : (p s : ℤ) → s ≤ℤ (pos 0 +ℤ p) → s ≤ℤ p
from-zero-high p s h = omega (arith, ints)

-- the sum of numbers from lo to hi is between as many times lo and as many times hi
pub sum-between : (lo hi : ℤ) (xs : List ℤ) → All (IsBetween lo hi) xs → IsBetween (pos (length xs) *ℤ lo) (pos (length xs) *ℤ hi) (int_sum xs)
sum-between lo hi xs h =
    let bounds = fold-between lo hi (pos 0) xs h in
    (from-zero-low (pos (length xs) *ℤ lo) (int_sum xs) bounds.0, from-zero-high (pos (length xs) *ℤ hi) (int_sum xs) bounds.1)
