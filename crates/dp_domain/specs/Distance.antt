-- How far two lists are from each other in any order, and how far two vectors are.
use Rattle.std.specs.Prelude.{ℕ, ℤ, ◌-ℤ◌, nat_abs, Bool, List, [], ◌∷◌, ◌++◌, Option, cond, sum_by, count_by, zip, nat_eq, IsPermutation}
use Rattle.std.specs.List.{list_any}
use Rattle.std.specs.Option.{option_eq}
use Rattle.std.specs.Ordering.{int_eq}
use Rattle.std.specs.Cmp.Lexicographic.{pointwise}
pub use Rattle.dp_count.specs.Apart.{apart}

-- how many places of the list hold an element
abbrev pub occurrences : {E : Type 0} → (E → E → Bool) → List E → E → ℕ
occurrences same xs e = count_by (λ x. same e x) xs

-- the members of the list, each once
unfoldable pub distinct : {E : Type 0} → (E → E → Bool) → List E → List E
distinct same [] = []
distinct same (x ∷ xs) = cond (list_any (same x) xs) (distinct same xs) (x ∷ distinct same xs)

-- the sum, over all elements, of the difference of their numbers of occurrences: order plays no part
unfoldable pub diff : {E : Type 0} → (E → E → Bool) → List E → List E → ℕ
diff same xs ys = sum_by (λ e. apart (occurrences same xs e) (occurrences same ys e)) (distinct same (xs ++ ys))

-- a common part of two lists and what is left of each, in any order
pub record Split {E : Type 0} (xs ys : List E) : Type 0 where
  pub common : List E
  pub left : List E
  pub right : List E
  pub one : IsPermutation xs (common ++ left)
  pub other : IsPermutation ys (common ++ right)

-- the same bytes
abbrev pub text_eq : List ℕ → List ℕ → Bool
text_eq = pointwise nat_eq

-- the same cells
abbrev pub record_eq : List (List ℕ) → List (List ℕ) → Bool
record_eq = pointwise text_eq

-- both missing, or the same number
abbrev pub opt_int_eq : Option ℤ → Option ℤ → Bool
opt_int_eq = option_eq int_eq

-- the sum of the absolute differences of two vectors' cells
unfoldable pub l1 : List ℤ → List ℤ → ℕ
l1 xs ys = sum_by (λ p. nat_abs (p.0 -ℤ p.1)) (zip xs ys)
