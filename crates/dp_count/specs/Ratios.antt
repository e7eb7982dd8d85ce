-- Two numbers that keep within a power of a ratio, and lists of such pairs.
use Rattle.std.specs.Prelude.{ℕ, ◌+◌, ◌*◌, ◌^◌, ◌≤◌, List, [], ◌∷◌, length, replicate}
use Rattle.std.specs.List.{sum}

-- x is at most (q/p)^k times y, said without division
abbrev pub KeepsRatio : ℕ → ℕ → ℕ → ℕ → ℕ → Type 0
KeepsRatio p q k x y = x * p ^ k ≤ q ^ k * y

-- two numbers x and y, and an exponent k
pub record Pair : Type 0 where
  pub k : ℕ
  pub x : ℕ
  pub y : ℕ

-- x is at most (q/p)^k times y
abbrev pub Keeps : ℕ → ℕ → Pair → Type 0
Keeps p q pair = KeepsRatio p q pair.k pair.x pair.y

-- the products of the numbers of two pairs, and the sum of their exponents
abbrev pub times : Pair → Pair → Pair
times one other = record { k = one.k + other.k; x = one.x * other.x; y = one.y * other.y }

-- three lists of one length: at each place the two numbers keep the ratio at the exponent there
unfoldable pub KeepRatios : ℕ → ℕ → List ℕ → List ℕ → List ℕ → Type 0
KeepRatios p q [] [] [] = Unit {0}
KeepRatios p q (k ∷ ks) (x ∷ xs) (y ∷ ys) = KeepsRatio p q k x y × KeepRatios p q ks xs ys
KeepRatios p q _ _ _ = ⊥

-- the product of a list
unfoldable pub product : List ℕ → ℕ
product [] = 1
product (x ∷ xs) = x * product xs

-- pairs that keep a ratio multiply, and their exponents add
abbrev pub RatioProductLaw : Type 0
RatioProductLaw = (p q : ℕ) (one other : Pair) → Keeps p q one → Keeps p q other → Keeps p q (times one other)

-- a pair that keeps a ratio keeps it at every greater exponent
abbrev pub RatioGrowthLaw : Type 0
RatioGrowthLaw =
    (p q k : ℕ) (pair : Pair) → p ≤ q → pair.k ≤ k → Keeps p q pair → KeepsRatio p q k pair.x pair.y

-- lists of pairs that keep a ratio: their products keep it at the sum of the exponents
abbrev pub RatioListLaw : Type 0
RatioListLaw =
    (p q : ℕ) (ks xs ys : List ℕ) → KeepRatios p q ks xs ys → KeepsRatio p q (sum ks) (product xs) (product ys)

-- lists of pairs that keep a ratio at one exponent: their sums keep it too
abbrev pub RatioSumLaw : Type 0
RatioSumLaw =
    (p q k : ℕ) (xs ys : List ℕ) → KeepRatios p q (replicate (length xs) k) xs ys → KeepsRatio p q k (sum xs) (sum ys)
