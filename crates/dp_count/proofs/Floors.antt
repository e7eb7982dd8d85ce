-- Quotients rounded down, and sums of the first numbers of a list: neither falls.
use Rattle.std.proofs.Common.{◌≡◌, ℕ, zero, suc, ◌+◌, ◌-◌, ◌*◌, ◌/◌, ◌≤◌, ◌<◌, List, [], ◌∷◌, take, ◌∙◌, ap, arith}
use Rattle.std.specs.List.{sum}
use Rattle.std.proofs.lemmas.List.Sums.{sum_by-cons}
use Rattle.std.proofs.Math.Nat.{div-mul-le_self, le-div_iff_mul-le}

-- of a greater number the quotient is no less
pub div-grows : (a b k : ℕ) → 1 ≤ k → a ≤ b → a / k ≤ b / k
div-grows a b k h l = let floor = div-mul-le_self a k in (le-div_iff_mul-le {k = k} {x = a / k} {y = b} h).1 (omega arith)

-- the sum of more of a list's first numbers is no less
pub take-grows : (ws : List ℕ) (a b : ℕ) → a ≤ b → sum (take a ws) ≤ sum (take b ws)
take-grows ws zero b h = omega arith
take-grows ws (suc a) zero h = absurd (omega arith)
take-grows [] (suc a) (suc b) h = omega arith
take-grows (x ∷ ws) (suc a) (suc b) h = let ih = take-grows ws a b (omega arith) in rw (sum_by-cons (λ n. n) x (take a ws), sum_by-cons (λ n. n) x (take b ws)) (omega arith)

-- the difference of two numbers rounded down to multiples of w is less than one w from the exact difference
pub bounds-by : (exact more w from to : ℕ) → from * w ≤ exact → exact < from * w + w → to * w ≤ exact + more → exact + more < to * w + w → from ≤ to →
    (more < (to - from) * w + w) × ((to - from) * w < more + w)
bounds-by exact more w from to a b c d h =
    let same : to ≡ from + (to - from) = omega arith in
    let split : to * w ≡ from * w + (to - from) * w = ap (λ x. x * w) same ∙ omega arith in
    (omega arith, omega arith)
