-- Sums of signed numbers.
use Rattle.std.specs.Prelude.{ℤ, pos, ◌+ℤ◌, List, fold}

-- the sum of the weights of a list's elements
abbrev pub int_sum_by : {E : Type 0} → (E → ℤ) → List E → ℤ
int_sum_by weight xs = fold (λ total x. total +ℤ weight x) (pos 0) xs

-- the sum of a list of numbers
abbrev pub int_sum : List ℤ → ℤ
int_sum xs = fold ◌+ℤ◌ (pos 0) xs
