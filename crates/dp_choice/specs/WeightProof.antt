-- Weights rise with scores, and by no more than the ratio allows; so do the weights of vectors that are near.
use Rattle.std.proofs.Common.{◌≡◌, ℕ, zero, suc, ◌+◌, ◌-◌, ◌*◌, ◌^◌, ◌≤◌, ◌<◌, ℤ, ◌-ℤ◌, ◌≤ℤ◌, nat_abs, List, [], ◌∷◌, length, refl, ap, subst, arith}
use Rattle.std.specs.Prelude.{slice_index}
use Rattle.std.specs.List.{sum}
use Rattle.std.proofs.lemmas.Int.{ints, clamps}
use Rattle.std.proofs.lemmas.List.Sums.{sum_by-cons}
use Rattle.std.proofs.Math.Nat.{add-suc, add-zero, suc-mul, pow-zero, pow-suc, mul-le-mul_left, mul-le-mul_right, div-mul-le_self, le-div_iff_mul-le}
use Rattle.dp_count.specs.Ratios.{KeepsRatio}
use Rattle.dp_count.proofs.Ratios.{ratio-more, ratio-add}
use Rattle.dp_domain.specs.Distance.{l1}
use Rattle.dp_domain.proofs.VectorDistance.{l1-cons}
use Rattle.dp_choice.specs.Weights.{ChoiceNumbers, weight, score, weights, greatest}

-- one step of the score
weight-step : (first low high s : ℕ) → weight first low high (suc s) * low ≤ weight first low high s * high
unfolding weight
weight-step first low high s = div-mul-le_self (weight first low high s * high) low

weight-next : (first low high s : ℕ) → 1 ≤ low → low ≤ high → weight first low high s ≤ weight first low high (suc s)
unfolding weight
weight-next first low high s h k = (le-div_iff_mul-le {k = low} {x = weight first low high s} {y = weight first low high s * high} h).1 (mul-le-mul_left (weight first low high s) k)

-- weights do not fall as scores rise
pub weight-rise : (first low high a h : ℕ) → 1 ≤ low → low ≤ high → weight first low high a ≤ weight first low high (a + h)
weight-rise first low high a zero k l = rw add-zero (omega arith)
weight-rise first low high a (suc h) k l =
    let ih = weight-rise first low high a h k l in
    let next = weight-next first low high (a + h) k l in
    rw add-suc (omega arith)

-- h steps of the score multiply a weight by at most (high / low) ^ h
weight-growth : (first low high a h : ℕ) → KeepsRatio low high h (weight first low high (a + h)) (weight first low high a)
weight-growth first low high a zero = rw (add-zero, pow-zero, pow-zero) (omega arith)
weight-growth first low high a (suc h) =
    let ih = mul-le-mul_right high (weight-growth first low high a h) in
    let step = mul-le-mul_right (low ^ h) (weight-step first low high (a + h)) in
    rw (add-suc, pow-suc, pow-suc) (omega arith)

-- scores at most e apart
pub weight-near : (first low high a b e : ℕ) → 1 ≤ low → low ≤ high → a ≤ b + e → KeepsRatio low high e (weight first low high a) (weight first low high b)
weight-near first low high a b e k l near =
    let h = a - b in
    let up : weight first low high a ≤ weight first low high (a + (b + h - a)) = weight-rise first low high a (b + h - a) k l in
    let same : a + (b + h - a) ≡ b + h = omega arith in
    let over : weight first low high a ≤ weight first low high (b + h) = subst (λ (s : ℕ). weight first low high a ≤ weight first low high s) same up in
    let wide = mul-le-mul_right (low ^ h) over in
    let grown = weight-growth first low high b h in
    ratio-more low high h e _ _ l (omega arith) (omega arith)

-- every weight up to a score lies from the first weight to the weight of that score
pub weight-least : (first low high s : ℕ) → 1 ≤ low → low ≤ high → first ≤ weight first low high s
unfolding weight
weight-least first low high zero k l = omega arith
weight-least first low high (suc s) k l =
    let ih = weight-least first low high s k l in
    let next = weight-next first low high s k l in
    omega arith

pub weight-most : (first low high s t : ℕ) → 1 ≤ low → low ≤ high → s ≤ t → weight first low high s ≤ weight first low high t
weight-most first low high s t k l h =
    let same : s + (t - s) ≡ t = omega arith in
    subst (λ (x : ℕ). weight first low high s ≤ weight first low high x) same (weight-rise first low high s (t - s) k l)

-- scores of numbers that are near, and the greatest score
score-near : (c : ChoiceNumbers) (x y : ℤ) → c.floor ≤ℤ c.top → score c x ≤ score c y + nat_abs (x -ℤ y)
score-near c x y h = omega (arith, ints, clamps)

pub score-most : (c : ChoiceNumbers) (z : ℤ) → c.floor ≤ℤ c.top → score c z ≤ nat_abs (c.top -ℤ c.floor)
score-most c z h = omega (arith, ints, clamps)

weights-cons : (first : ℕ) (c : ChoiceNumbers) (z : ℤ) (zs : List ℤ) → weights first c (z ∷ zs) ≡ weight first c.low c.high (score c z) ∷ weights first c zs
unfolding weights
weights-cons first c z zs = refl

pub length-weights : (first : ℕ) (c : ChoiceNumbers) (zs : List ℤ) → length (weights first c zs) ≡ length zs
unfolding weights
length-weights first c [] = refl
length-weights first c (z ∷ zs) = ap suc (length-weights first c zs)

-- the sum of the weights of vectors that are near
pub weights-near : (first d : ℕ) (c : ChoiceNumbers) (xs ys : List ℤ) → 1 ≤ c.low → c.low ≤ c.high → c.floor ≤ℤ c.top → length xs ≡ length ys → l1 xs ys ≤ d →
    KeepsRatio c.low c.high d (sum (weights first c xs)) (sum (weights first c ys))
unfolding weights
weights-near first d c [] [] k l f h near = omega arith
weights-near first d c [] (y ∷ ys) k l f h near = absurd (omega arith)
weights-near first d c (x ∷ xs) [] k l f h near = absurd (omega arith)
weights-near first d c (x ∷ xs) (y ∷ ys) k l f h near =
    let cons = l1-cons x y xs ys in
    let scores = score-near c x y f in
    let head = weight-near first c.low c.high (score c x) (score c y) d k l (omega arith) in
    let tail = weights-near first d c xs ys k l f (omega arith) (omega arith) in
    rw (sum_by-cons, sum_by-cons) (ratio-add c.low c.high d _ _ _ _ head tail)

-- the weight of one cell of vectors that are near
pub cell-near : (first d : ℕ) (c : ChoiceNumbers) (xs ys : List ℤ) (j : ℕ) → 1 ≤ c.low → c.low ≤ c.high → c.floor ≤ℤ c.top → length xs ≡ length ys → l1 xs ys ≤ d → j < length xs →
    KeepsRatio c.low c.high d (slice_index (weights first c xs) j) (slice_index (weights first c ys) j)
unfolding weights
cell-near first d c [] ys j k l f h near below = absurd (omega arith)
cell-near first d c (x ∷ xs) [] j k l f h near below = absurd (omega arith)
cell-near first d c (x ∷ xs) (y ∷ ys) zero k l f h near below =
    let cons = l1-cons x y xs ys in
    let scores = score-near c x y f in
    weight-near first c.low c.high (score c x) (score c y) d k l (omega arith)
cell-near first d c (x ∷ xs) (y ∷ ys) (suc j) k l f h near below =
    let cons = l1-cons x y xs ys in
    cell-near first d c xs ys j k l f (omega arith) (omega arith) (omega arith)

pub cell-least : (first : ℕ) (c : ChoiceNumbers) (xs : List ℤ) (j : ℕ) → 1 ≤ c.low → c.low ≤ c.high → j < length xs → first ≤ slice_index (weights first c xs) j
unfolding weights
cell-least first c [] j k l below = absurd (omega arith)
cell-least first c (x ∷ xs) zero k l below = weight-least first c.low c.high (score c x) k l
cell-least first c (x ∷ xs) (suc j) k l below = cell-least first c xs j k l (omega arith)

-- the sum of the weights is at most so many times the greatest weight, and at least 1
pub weights-most : (first : ℕ) (c : ChoiceNumbers) (xs : List ℤ) → 1 ≤ c.low → c.low ≤ c.high → c.floor ≤ℤ c.top → sum (weights first c xs) ≤ length xs * greatest first c
unfolding weights
weights-most first c [] k l f = omega arith
weights-most first c (x ∷ xs) k l f =
    let ih = weights-most first c xs k l f in
    let one = weight-most first c.low c.high (score c x) (nat_abs (c.top -ℤ c.floor)) k l (score-most c x f) in
    rw (sum_by-cons, suc-mul) (omega arith)

pub weights-positive : (first : ℕ) (c : ChoiceNumbers) (xs : List ℤ) → 1 ≤ first → 1 ≤ c.low → c.low ≤ c.high → 1 ≤ length xs → 1 ≤ sum (weights first c xs)
unfolding weights
weights-positive first c [] p k l h = absurd (omega arith)
weights-positive first c (x ∷ xs) p k l h =
    let one = weight-least first c.low c.high (score c x) k l in
    rw sum_by-cons (omega arith)
