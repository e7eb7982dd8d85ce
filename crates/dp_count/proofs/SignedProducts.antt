-- How a natural number times a signed number grows with either.
use Rattle.std.proofs.Common.{ℕ, zero, suc, ◌≤◌, ℤ, pos, negsuc, ◌*ℤ◌, ◌≤ℤ◌, arith}
use Rattle.std.proofs.Math.Nat.{mul-le-mul_left, mul-le-mul_right}
use Rattle.std.proofs.lemmas.Int.{ints}

-- a number of times the smaller is at most as many times the greater
pub times-order : (n : ℕ) (z w : ℤ) → z ≤ℤ w → (pos n *ℤ z) ≤ℤ (pos n *ℤ w)
times-order n (pos a) (pos b) h = let k = mul-le-mul_left {m = a} {n = b} n (omega (arith, ints)) in omega (arith, ints)
times-order n (pos a) (negsuc b) h = absurd (omega (arith, ints))
times-order n (negsuc a) (pos b) h = omega (arith, ints)
times-order n (negsuc a) (negsuc b) h = let k = mul-le-mul_left {m = suc b} {n = suc a} n (omega (arith, ints)) in omega (arith, ints)

-- more times a number that is not below 0 is more
pub times-rise : (n m : ℕ) (z : ℤ) → n ≤ m → pos 0 ≤ℤ z → (pos n *ℤ z) ≤ℤ (pos m *ℤ z)
times-rise n m (pos a) h k = let l = mul-le-mul_right {m = n} {n = m} a h in omega (arith, ints)
times-rise n m (negsuc a) h k = absurd (omega (arith, ints))

-- more times a number that is not above 0 is less
pub times-fall : (n m : ℕ) (z : ℤ) → n ≤ m → z ≤ℤ pos 0 → (pos m *ℤ z) ≤ℤ (pos n *ℤ z)
times-fall n m (pos zero) h k = omega (arith, ints)
times-fall n m (pos (suc a)) h k = absurd (omega (arith, ints))
times-fall n m (negsuc a) h k = let l = mul-le-mul_right {m = n} {n = m} (suc a) h in omega (arith, ints)
