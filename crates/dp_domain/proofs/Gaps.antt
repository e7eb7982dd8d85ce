-- How far apart two vectors are in each cell.
use Rattle.std.proofs.Common.{◌≡◌, ℕ, ◌+◌, ℤ, ◌-ℤ◌, nat_abs, List, [], ◌∷◌, refl, sym, ◌∙◌, ap}
use Rattle.std.specs.List.{sum}
use Rattle.std.proofs.lemmas.List.Sums.{sum_by-cons}
use Rattle.dp_domain.specs.Distance.{l1}
use Rattle.dp_domain.proofs.VectorDistance.{l1-cons}

-- how far two vectors' cells are apart
unfoldable pub gaps : List ℤ → List ℤ → List ℕ
gaps (x ∷ xs) (y ∷ ys) = nat_abs (x -ℤ y) ∷ gaps xs ys
gaps _ _ = []

-- together they are the vectors' distance
pub gaps-sum : (xs ys : List ℤ) → sum (gaps xs ys) ≡ l1 xs ys
unfolding gaps l1
gaps-sum [] ys = refl
gaps-sum (x ∷ xs) [] = refl
gaps-sum (x ∷ xs) (y ∷ ys) =
    sum_by-cons (λ n. n) (nat_abs (x -ℤ y)) (gaps xs ys) ∙ ap (λ n. nat_abs (x -ℤ y) + n) (gaps-sum xs ys) ∙ sym (l1-cons x y xs ys)
