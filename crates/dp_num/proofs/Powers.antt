-- The powers of a ratio's numbers.
use Rattle.std.proofs.Common.{◌≡◌, ℕ, zero, suc, ◌+◌, ◌*◌, ◌^◌, ◌≤◌, ◌<◌, Bool, true, false, cond, Option, Some, None, refl, sym, ◌∙◌, ap, arith, eqb, leb}
use Rattle.std.proofs.Math.Nat.{mul-le-mul_left, mul-le-mul_right, pow-suc, pow-zero, pow-le-pow_left, pow-le-pow_right, one-le-pow}
use Rattle.std.proofs.lemmas.Bool.Decides.{nat_tests}
use Rattle.dp_num.specs.Limits.{powers, powers_within, ArePowers}

refused : (t : Bool) (low high n limit : ℕ) → leb n limit ≡ t → cond {A = Option (ℕ × ℕ)} t (Some (low, high)) None ≡ None → limit < n
refused true low high n limit e h = absurd cc
refused false low high n limit e h = grind (arith, nat_tests)

-- two powers are refused exactly past the limit
pub powers_within-past : (low high : ℕ) → 2 ^ 62 < high + low → powers_within low high ≡ None
powers_within-past low high h = let e : leb (high + low) (2 ^ 62) ≡ false = grind (arith, nat_tests) in rw e refl

pub powers_within-made : (low high : ℕ) → high + low ≤ 2 ^ 62 → powers_within low high ≡ Some (low, high)
powers_within-made low high h = let e : leb (high + low) (2 ^ 62) ≡ true = grind (arith, nat_tests) in rw e refl

pub powers_within-none : (low high : ℕ) → powers_within low high ≡ None → 2 ^ 62 < high + low
powers_within-none low high h = refused (leb (high + low) (2 ^ 62)) low high (high + low) (2 ^ 62) refl h

made : (t : Bool) (low high n limit a b : ℕ) → leb n limit ≡ t → cond {A = Option (ℕ × ℕ)} t (Some (low, high)) None ≡ Some (a, b) → (a ≡ low) × (b ≡ high) × (n ≤ limit)
made true low high n limit a b e h =
    let pairs : ◌≡◌ {A = ℕ × ℕ} (low, high) (a, b) = cc in
    (sym (ap (λ (x : ℕ × ℕ). x.0) pairs), sym (ap (λ (x : ℕ × ℕ). x.1) pairs), grind (arith, nat_tests))
made false low high n limit a b e h = absurd cc

pub powers_within-some : (low high a b : ℕ) → powers_within low high ≡ Some (a, b) → (a ≡ low) × (b ≡ high) × (high + low ≤ 2 ^ 62)
powers_within-some low high a b h = made (leb (high + low) (2 ^ 62)) low high (high + low) (2 ^ 62) a b refl h

pub pow-one : (n : ℕ) → n ^ 1 ≡ n
pow-one n = pow-suc n 0 ∙ rw (pow-zero n) (omega arith)

-- no powers at 0
pub powers-zero : (p q : ℕ) → powers p q 0 ≡ None
unfolding powers
powers-zero p q = refl

powers-positive : (p q u : ℕ) → 1 ≤ u → powers p q u ≡ powers_within (p ^ u) (q ^ u)
unfolding powers
powers-positive p q u h = let e : eqb u 0 ≡ false = grind (arith, nat_tests) in rw e refl

-- the powers at u, where they stand
pub powers-made : (p q u low high : ℕ) → 1 ≤ u → low ≡ p ^ u → high ≡ q ^ u → high + low ≤ 2 ^ 62 → powers p q u ≡ Some (low, high)
powers-made p q u low high h a b k = powers-positive p q u h ∙ rw (← a, ← b) (powers_within-made low high k)

-- once a power passes the limit, each later one does
pub powers-past : (p q k u low high : ℕ) → 1 ≤ p → 1 ≤ q → k < u → low ≡ p ^ k → high ≡ q ^ k → powers_within (low * p) (high * q) ≡ None → powers p q u ≡ None
powers-past p q k u low high p1 q1 h a b e =
    let past : 2 ^ 62 < high * q + low * p = powers_within-none (low * p) (high * q) e in
    let i : suc k ≤ u = omega arith in
    let pk : p ^ suc k ≤ p ^ u = pow-le-pow_right (omega arith) i in
    let qk : q ^ suc k ≤ q ^ u = pow-le-pow_right (omega arith) i in
    let ps : p ^ suc k ≡ low * p = pow-suc p k ∙ ap (λ n. n * p) (sym a) in
    let qs : q ^ suc k ≡ high * q = pow-suc q k ∙ ap (λ n. n * q) (sym b) in
    powers-positive p q u (omega arith) ∙ powers_within-past (p ^ u) (q ^ u) (omega arith)

-- what the powers are
powers-some : (p q u low high : ℕ) → powers p q u ≡ Some (low, high) → (1 ≤ u) × (low ≡ p ^ u) × (high ≡ q ^ u) × (high + low ≤ 2 ^ 62)
powers-some p q zero low high h = absurd (let e = powers-zero p q in cc)
powers-some p q (suc u) low high h =
    let made = powers_within-some (p ^ suc u) (q ^ suc u) low high (sym (powers-positive p q (suc u) (omega arith)) ∙ h) in
    (omega arith, made.0, made.1, omega (arith, made.2))

pow-lt_step : (p q a b : ℕ) → p < q → a ≤ b → 1 ≤ b → a * p < b * q
pow-lt_step p q a b h k l =
    let x : a * p ≤ b * p = mul-le-mul_right p k in
    let y : b * suc p ≤ b * q = mul-le-mul_left b (omega arith) in
    omega arith

pow-lt : (p q u : ℕ) → p < q → p ^ suc u < q ^ suc u
pow-lt p q u h =
    let a : p ^ u ≤ q ^ u = pow-le-pow_left (omega arith) u in
    let b : 1 ≤ q ^ u = one-le-pow u q (omega arith) in
    rw (pow-suc p u, pow-suc q u) (pow-lt_step p q (p ^ u) (q ^ u) h a b)

powers-below_one : (p q u low high : ℕ) → 1 ≤ p → p < q → powers p q u ≡ Some (low, high) → (1 ≤ low) × (low < high)
powers-below_one p q zero low high a b h = absurd (let e = powers-zero p q in cc)
powers-below_one p q (suc u) low high a b h =
    let made = powers-some p q (suc u) low high h in
    (rw made.1 (one-le-pow (suc u) p (omega arith)), rw (made.1, made.2) (pow-lt p q u b))

few-by : (few : Bool) (q u : ℕ) → leb u 62 ≡ few → 2 ≤ q → q ^ u ≤ 2 ^ 62 → u ≤ 62
few-by true q u e h k = grind (arith, nat_tests)
few-by false q u e h k =
    let more : 63 ≤ u = grind (arith, nat_tests) in
    let base : 2 ^ u ≤ q ^ u = pow-le-pow_left h u in
    let grown : 2 ^ 63 ≤ 2 ^ u = pow-le-pow_right (omega arith) more in
    absurd (omega arith)

-- the powers of a ratio are the numbers of a ratio
pub are-powers : (p q u : ℕ) (both : ℕ × ℕ) → 1 ≤ p → p < q → powers p q u ≡ Some both → ArePowers p q u both
are-powers p q u both positive below h =
    let some = powers-some p q u both.0 both.1 h in
    let order = powers-below_one p q u both.0 both.1 positive below h in
    record {
      low = some.1;
      high = some.2;
      positive = order.0;
      below_one = order.1;
      bounded = some.3;
      few = few-by (leb u 62) q u refl (omega arith) (omega (arith, some.2, some.3));
    }
