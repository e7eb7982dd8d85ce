-- The order of two lists of which one is a beginning of the other.
use Rattle.std.proofs.Common.{◌≡◌, ℕ, suc, ◌-◌, ◌≤◌, min, List, [], ◌∷◌, length, drop, refl, ◌∙◌, arith, Less, Greater}
use Rattle.std.specs.declared.cmp.Ordering.{Ordering}
use Rattle.std.specs.Ordering.{nat_cmp}
use Rattle.std.specs.Cmp.Lexicographic.{slice_cmp}
use Rattle.std.proofs.lemmas.Bool.Decides.{nat_tests}
use Rattle.std.proofs.lemmas.List.{length-drop}

less-one : (n : ℕ) → Less ≡ nat_cmp 0 (suc n)
less-one n = grind (arith, nat_tests)

greater-one : (n : ℕ) → Greater ≡ nat_cmp (suc n) 0
greater-one n = grind (arith, nat_tests)

shorter-first : {X : Type 0} (R : X → X → Ordering) (xs ys : List X) → min (length xs) (length ys) ≡ 0
    → slice_cmp R xs ys ≡ nat_cmp (length xs) (length ys)
shorter-first R [] [] h = refl
shorter-first R [] (y ∷ ys) h = less-one (length ys)
shorter-first R (x ∷ xs) [] h = greater-one (length xs)
shorter-first R (x ∷ xs) (y ∷ ys) h = absurd (omega arith)

less-both : (a b n : ℕ) → n ≤ a → n ≤ b → nat_cmp (a - n) (b - n) ≡ nat_cmp a b
less-both a b n h k = grind (arith, nat_tests)

-- after as many elements as the shorter list has, the lengths decide
pub lengths-decide : {X : Type 0} (R : X → X → Ordering) (xs ys : List X) (n : ℕ) → min (length xs) (length ys) ≡ n
    → slice_cmp R (drop n xs) (drop n ys) ≡ nat_cmp (length xs) (length ys)
lengths-decide R xs ys n h =
    let left = length-drop n xs in
    let right = length-drop n ys in
    let none : min (length (drop n xs)) (length (drop n ys)) ≡ 0 = omega arith in
    shorter-first R (drop n xs) (drop n ys) none ∙ rw (left, right) (less-both (length xs) (length ys) n (omega arith) (omega arith))
