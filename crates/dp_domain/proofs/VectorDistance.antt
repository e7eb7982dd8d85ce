-- The distance of two vectors, cell by cell.
use Rattle.std.proofs.Common.{◌≡◌, ◌+◌, ◌≤◌, ℤ, ◌-ℤ◌, nat_abs, List, [], ◌∷◌, length, refl, arith}
use Rattle.std.specs.Prelude.{zip}
use Rattle.std.proofs.lemmas.Int.{ints}
use Rattle.std.proofs.lemmas.List.Sums.{sum_by-cons}
use Rattle.dp_domain.specs.Distance.{l1}

-- the first cells and the rest
pub l1-cons : (x y : ℤ) (xs ys : List ℤ) → l1 (x ∷ xs) (y ∷ ys) ≡ nat_abs (x -ℤ y) + l1 xs ys
unfolding l1
l1-cons x y xs ys = sum_by-cons (λ (p : ℤ × ℤ). nat_abs (p.0 -ℤ p.1)) (x, y) (zip xs ys)

-- the distance of two vectors is the same from either side
l1-swap_one : (x y : ℤ) → nat_abs (x -ℤ y) ≡ nat_abs (y -ℤ x)
l1-swap_one x y = omega (arith, ints)

pub l1-swap : (xs ys : List ℤ) → length xs ≡ length ys → l1 xs ys ≡ l1 ys xs
l1-swap [] [] h = refl
l1-swap [] (y ∷ ys) h = absurd (omega arith)
l1-swap (x ∷ xs) [] h = absurd (omega arith)
l1-swap (x ∷ xs) (y ∷ ys) h =
    let ih = l1-swap xs ys (omega arith) in
    let one = l1-swap_one x y in
    rw (l1-cons x y xs ys, l1-cons y x ys xs) (omega arith)

-- numbers, and vectors, without a distance are the same
pub same-number : (x y : ℤ) → nat_abs (x -ℤ y) ≤ 0 → x ≡ y
same-number x y h = omega (arith, ints)

pub l1-zero : (xs ys : List ℤ) → length xs ≡ length ys → l1 xs ys ≤ 0 → xs ≡ ys
l1-zero [] [] h near = refl
l1-zero [] (y ∷ ys) h near = absurd (omega arith)
l1-zero (x ∷ xs) [] h near = absurd (omega arith)
l1-zero (x ∷ xs) (y ∷ ys) h near =
    let cons = l1-cons x y xs ys in
    let head : x ≡ y = same-number x y (omega arith) in
    let tail : xs ≡ ys = l1-zero xs ys (omega arith) (omega arith) in
    cc
