-- The laws of the number of draw lists that meet a test.
use Rattle.std.specs.Prelude.{◌≡◌, ℕ, ◌+◌, ◌-◌, ◌*◌, ◌^◌, ◌<◌, ◌≤◌, ◌==◌, ◌&&◌, ◌||◌, Bool, true, false, List, [], ◌∷◌, ◌++◌, length, take, drop, replicate, nat_lt, nat_le, slice_index}
use Rattle.std.specs.List.{sum_by, list_any}
use Rattle.dp_count.specs.DrawLists.{count, IsDrawList, leading_run}
use Rattle.dp_count.specs.Ratios.{product}

-- a test of joined draws that is a test of either part: the two numbers multiply
abbrev pub ProductLaw : Type 0
ProductLaw = (front back : List ℕ) (both one other : List ℕ → Bool)
    → ((d e : List ℕ) → IsDrawList front d → IsDrawList back e → both (d ++ e) ≡ (one d && other e))
    → count (front ++ back) both ≡ count front one * count back other

-- the same where the draws are cut at the length of the first shape
abbrev pub CutLaw : Type 0
CutLaw = (front back : List ℕ) (one other : List ℕ → Bool)
    → count (front ++ back) (λ draws. one (take (length front) draws) && other (drop (length front) draws))
    ≡ count front one * count back other

-- a draw that the test does not look at multiplies the number by its bound
abbrev pub BlockLaw : Type 0
BlockLaw = (front back : List ℕ) (bound : ℕ) (test rest : List ℕ → Bool)
    → ((d e : List ℕ) (draw : ℕ) → IsDrawList front d → draw < bound → IsDrawList back e
    → test (d ++ draw ∷ e) ≡ rest (d ++ e))
    → count (front ++ bound ∷ back) test ≡ bound * count (front ++ back) rest

-- of the lists of n draws below high, so many begin with exactly g < n draws below low
abbrev pub RunLaw : Type 0
RunLaw = (low high n g : ℕ) → low ≤ high → g < n
    → count (replicate n high) (λ draws. leading_run low draws == g) ≡ low ^ g * (high - low) * high ^ (n - g - 1)

-- .. and so many have all n draws below low
abbrev pub WholeRunLaw : Type 0
WholeRunLaw = (low high n : ℕ) → low ≤ high → count (replicate n high) (λ draws. leading_run low draws == n) ≡ low ^ n

-- .. and so many begin with g draws below low, whatever follows
abbrev pub LongRunLaw : Type 0
LongRunLaw = (low high n g : ℕ) → low ≤ high → g ≤ n
    → count (replicate n high) (λ draws. nat_le g (leading_run low draws)) ≡ low ^ g * high ^ (n - g)

-- b - a draws below m lie in [a, b)
abbrev pub IntervalLaw : Type 0
IntervalLaw = (m a b : ℕ) → a ≤ b → b ≤ m
    → count (m ∷ []) (λ draws. nat_le a (slice_index draws 0) && nat_lt (slice_index draws 0) b) ≡ b - a

-- tests that are never both met: the numbers add
abbrev pub EitherLaw : Type 0
EitherLaw = (shape : List ℕ) (one other : List ℕ → Bool)
    → ((d : List ℕ) → IsDrawList shape d → (one d && other d) ≡ false)
    → count shape (λ draws. one draws || other draws) ≡ count shape one + count shape other

-- a shape has as many draw lists as the product of its bounds
abbrev pub WholeLaw : Type 0
WholeLaw = (shape : List ℕ) → count shape (λ _. true) ≡ product shape

-- no value is the same as two of a list
unfoldable pub AreApart : {R : Type 0} → (R → R → Bool) → List R → Type 0
AreApart same [] = Unit {0}
AreApart same (x ∷ xs) = ((r : _) → (same r x && list_any (same r) xs) ≡ false) × AreApart same xs

-- draws whose reply is one of several, none the same as another: the numbers of the single replies add
abbrev pub PartitionLaw : Type 0 → Type 0
PartitionLaw R = (same : R → R → Bool) (shape : List ℕ) (out : List ℕ → R) (wanted : List R) → AreApart same wanted
    → count shape (λ draws. list_any (same (out draws)) wanted)
    ≡ sum_by (λ reply. count shape (λ draws. same (out draws) reply)) wanted
