-- From the shares of two lists of weights that are near, the numbers of draws of a place keep the ratio.
use Rattle.std.proofs.Common.{◌≡◌, ℕ, suc, ◌+◌, ◌-◌, ◌*◌, ◌^◌, ◌≤◌, ◌∙◌, ap, arith}
use Rattle.std.proofs.Math.Nat.{pow-suc, pow-le-pow_left, mul-le-mul_left, mul-le-mul_right, le_of_mul-le-mul_right}
use Rattle.dp_count.specs.Ratios.{KeepsRatio}

-- two factors of at least 1
one-le-product : (a b : ℕ) → 1 ≤ a → 1 ≤ b → 1 ≤ a * b
one-le-product a b h k = let wide = mul-le-mul_left a k in omega arith

-- the weight condition, at any weight w from the first on and any sum of at most so many greatest weights
pub room : (n first w most total p q : ℕ) → first ≤ w → p ≤ q → total ≤ most → n * first * p + most * (q + p) ≤ n * first * q → n * w * p + total * (q + p) ≤ n * w * q
room n first w most total p q h k l fits =
    let more = mul-le-mul_left (n * (w - first)) k in
    let few = mul-le-mul_right (q + p) l in
    let same : w ≡ first + (w - first) = omega arith in
    let low : n * w * p ≡ n * first * p + n * (w - first) * p = ap (λ x. n * x * p) same ∙ omega arith in
    let high : n * w * q ≡ n * first * q + n * (w - first) * q = ap (λ x. n * x * q) same ∙ omega arith in
    omega arith

-- the share of one list in the numbers of the other, for the sums z = a_total * b_total
share-step : (c n a b a_total b_total p q low high : ℕ) → c * a_total ≤ n * a + a_total → a * b_total * low ≤ high * (b * a_total) → low ≤ high →
    c * (a_total * b_total) * low ≤ high * (n * b * a_total + a_total * b_total)
share-step c n a b a_total b_total p q low high few near order =
    let z = a_total * b_total in
    let wide : c * a_total * (b_total * low) ≤ (n * a + a_total) * (b_total * low) = mul-le-mul_right (b_total * low) few in
    let times : n * (a * b_total * low) ≤ n * (high * (b * a_total)) = mul-le-mul_left n near in
    let over : z * low ≤ z * high = mul-le-mul_left z order in
    omega arith

-- what the weight condition leaves for the rounding of both numbers
share-room : (c n b a_total b_total p q : ℕ) → n * b ≤ c * b_total + b_total → n * b * p + b_total * (q + p) ≤ n * b * q →
    (n * b * a_total + a_total * b_total) * p ≤ c * (a_total * b_total) * q
share-room c n b a_total b_total p q many fits =
    let wide : n * b * (a_total * q) ≤ (c * b_total + b_total) * (a_total * q) = mul-le-mul_right (a_total * q) many in
    let times : a_total * (n * b * p + b_total * (q + p)) ≤ a_total * (n * b * q) = mul-le-mul_left a_total fits in
    omega arith

-- the numbers c and e of draws of a place, for the weights a and b there
pub share-ratio : (c e n a b a_total b_total p q m : ℕ) → 1 ≤ a_total → 1 ≤ b_total → p ≤ q → c * a_total ≤ n * a + a_total → n * b ≤ e * b_total + b_total →
    KeepsRatio p q m (a * b_total) (b * a_total) → n * b * p + b_total * (q + p) ≤ n * b * q → KeepsRatio p q (m + 1) c e
share-ratio c e n a b a_total b_total p q m ha hb order few many near fits =
    let z = a_total * b_total in
    let low = p ^ m in
    let high = q ^ m in
    let front : c * z * low ≤ high * (n * b * a_total + z) = share-step c n a b a_total b_total p q low high few near (pow-le-pow_left order m) in
    let back : (n * b * a_total + z) * p ≤ e * z * q = share-room e n b a_total b_total p q many fits in
    let one : c * z * low * p ≤ high * (n * b * a_total + z) * p = mul-le-mul_right p front in
    let two : high * ((n * b * a_total + z) * p) ≤ high * (e * z * q) = mul-le-mul_left high back in
    let whole : c * (low * p) * z ≤ high * q * e * z = omega arith in
    let cut : c * (low * p) ≤ high * q * e = le_of_mul-le-mul_right {m = c * (low * p)} {n = high * q * e} {k = z} whole (one-le-product a_total b_total ha hb) in
    let next : m + 1 ≡ suc m = omega arith in
    rw (next, pow-suc p m, pow-suc q m) cut
