-- How pairs that keep a ratio combine.
use Rattle.std.proofs.Common.{◌≡◌, ℕ, zero, suc, ◌+◌, ◌-◌, ◌*◌, ◌^◌, ◌≤◌, List, [], ◌∷◌, length, replicate, refl, ◌∙◌, ap, arith}
use Rattle.std.specs.List.{sum}
use Rattle.std.proofs.lemmas.List.Sums.{sum_by-cons}
use Rattle.std.proofs.lemmas.Nat.{pow-add}
use Rattle.std.proofs.Math.Nat.{mul-le-mul, mul-le-mul_left, mul-le-mul_right, mul-mul-mul_comm, pow-zero, pow-suc, pow-le-pow_left}
use Rattle.dp_count.specs.Ratios.{KeepsRatio, KeepRatios, product}

-- a number and itself
pub ratio-same : (p q x : ℕ) → KeepsRatio p q 0 x x
ratio-same p q x = rw (pow-zero p, pow-zero q) (omega arith)

-- nothing keeps every ratio
pub ratio-none : (p q k y : ℕ) → KeepsRatio p q k 0 y
ratio-none p q k y = omega arith

-- products of pairs
pub ratio-both : (p q j k x y v w : ℕ) → KeepsRatio p q j x y → KeepsRatio p q k v w → KeepsRatio p q (j + k) (x * v) (y * w)
ratio-both p q j k x y v w f g =
    let h : (x * p ^ j) * (v * p ^ k) ≤ (q ^ j * y) * (q ^ k * w) = mul-le-mul f g in
    rw (pow-add p j k, pow-add q j k) (omega (arith, mul-mul-mul_comm x (p ^ j) v (p ^ k), mul-mul-mul_comm (q ^ j) y (q ^ k) w))

-- a greater exponent
pub ratio-more : (p q j k x y : ℕ) → p ≤ q → j ≤ k → KeepsRatio p q j x y → KeepsRatio p q k x y
ratio-more p q j k x y h i f =
    let grow = pow-le-pow_left h (k - j) in
    let g : (x * p ^ j) * p ^ (k - j) ≤ (q ^ j * y) * q ^ (k - j) = mul-le-mul f grow in
    let e : k ≡ j + (k - j) = omega arith in
    let pe : p ^ k ≡ p ^ j * p ^ (k - j) = ap (λ n. p ^ n) e ∙ pow-add p j (k - j) in
    let qe : q ^ k ≡ q ^ j * q ^ (k - j) = ap (λ n. q ^ n) e ∙ pow-add q j (k - j) in
    rw (pe, qe) (omega arith)

-- one pair after the other
pub ratio-chain : (p q j k x y z : ℕ) → KeepsRatio p q j x y → KeepsRatio p q k y z → KeepsRatio p q (j + k) x z
ratio-chain p q j k x y z f g =
    let a = mul-le-mul_right (p ^ k) f in
    let b = mul-le-mul_left (q ^ j) g in
    rw (pow-add p j k, pow-add q j k) (omega arith)

-- sums of pairs at one exponent
pub ratio-add : (p q k x y v w : ℕ) → KeepsRatio p q k x y → KeepsRatio p q k v w → KeepsRatio p q k (x + v) (y + w)
ratio-add p q k x y v w f g = omega arith

-- a ratio of powers is a power of the ratio
pow-mul : (x a b : ℕ) → (x ^ a) ^ b ≡ x ^ (a * b)
pow-mul x a zero = rw (pow-zero (x ^ a)) (let e : a * zero ≡ zero = omega arith in rw (e, pow-zero) refl)
pow-mul x a (suc b) =
    let e : a * suc b ≡ a * b + a = omega arith in
    rw (pow-suc, e, pow-add, pow-mul x a b) refl

pub ratio-powers : (p q u e x y : ℕ) → KeepsRatio (p ^ u) (q ^ u) e x y → KeepsRatio p q (u * e) x y
ratio-powers p q u e x y h = rw (← pow-mul p u e, ← pow-mul q u e) h

-- products of lists
pub ratio-list : (p q : ℕ) (ks xs ys : List ℕ) → KeepRatios p q ks xs ys → KeepsRatio p q (sum ks) (product xs) (product ys)
unfolding KeepRatios product
ratio-list p q [] [] [] h = ratio-same p q 1
ratio-list p q (k ∷ ks) (x ∷ xs) (y ∷ ys) h =
    rw (sum_by-cons (λ n. n) k ks) (ratio-both p q k (sum ks) x y (product xs) (product ys) h.0 (ratio-list p q ks xs ys h.1))
ratio-list p q [] [] (y ∷ ys) h = absurd h
ratio-list p q [] (x ∷ xs) ys h = absurd h
ratio-list p q (k ∷ ks) [] ys h = absurd h
ratio-list p q (k ∷ ks) (x ∷ xs) [] h = absurd h

-- sums of lists
pub ratio-sum : (p q k : ℕ) (xs ys : List ℕ) → KeepRatios p q (replicate (length xs) k) xs ys → KeepsRatio p q k (sum xs) (sum ys)
unfolding KeepRatios
ratio-sum p q k [] [] h = omega arith
ratio-sum p q k [] (y ∷ ys) h = absurd h
ratio-sum p q k (x ∷ xs) [] h = absurd h
ratio-sum p q k (x ∷ xs) (y ∷ ys) h =
    rw (sum_by-cons (λ n. n) x xs, sum_by-cons (λ n. n) y ys) (ratio-add p q k x y (sum xs) (sum ys) h.0 (ratio-sum p q k xs ys h.1))
