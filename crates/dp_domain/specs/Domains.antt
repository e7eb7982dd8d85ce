-- Which numbers a domain may have, and which values a domain has.
use Rattle.std.specs.Prelude.{◌≡◌, ℕ, ℤ, pos, neg_ℤ, ◌≤ℤ◌, ◌≤◌, ◌<◌, ◌^◌, ◌&&◌, Bool, nat_le, length, Option, Some, None, IfSome, All}
use Rattle.dp_domain.specs.declared.domains.Domain.{Domain}
use Rattle.dp_domain.specs.declared.domains.Domain.TheVariants as domain
use Rattle.dp_domain.specs.declared.values.Value.{Value}
use Rattle.dp_domain.specs.declared.values.Value.TheVariants as value

-- the numbers of a list are from -item_limit to item_limit
abbrev pub item_limit : ℕ
item_limit = 2 ^ 31

-- a number alone, and each cell of a vector, is from -number_limit to number_limit
abbrev pub number_limit : ℕ
number_limit = 2 ^ 61

-- the greatest difference of the bounds of a narrow range, which has at most 65,536 numbers
abbrev pub most_width : ℕ
most_width = 65535

-- the greatest number of edges, or of texts that are numbered: one more is a number of categories
abbrev pub most_listed : ℕ
most_listed = 1023

-- a number from lo to hi
abbrev pub IsBetween : ℤ → ℤ → ℤ → Type 0
IsBetween lo hi z = (lo ≤ℤ z) × (z ≤ℤ hi)

-- a range that is not empty, with bounds from -limit to limit
abbrev pub IsRange : ℕ → ℤ → ℤ → Type 0
IsRange limit lo hi = (neg_ℤ (pos limit) ≤ℤ lo) × (lo ≤ℤ hi) × (hi ≤ℤ pos limit)

-- a size, where one is given, is from 1 to 2 ^ 20
abbrev pub FitsSize : Option ℕ → Type 0
FitsSize None = Unit {0}
FitsSize (Some n) = (1 ≤ n) × (n ≤ 2 ^ 20)

-- a number of categories, or of a vector's cells, is from 2 to 1,024
abbrev pub FewCategories : ℕ → Type 0
FewCategories n = (2 ≤ n) × (n ≤ 1024)

-- from 1 to 1,023, so that with one more it is a number of categories
abbrev pub few_and_one : ℕ → Bool
few_and_one n = nat_le 1 n && nat_le n most_listed

-- the domain's numbers are within their limits
abbrev pub Fits : Domain → Type 0
Fits (domain.Rows columns) = (1 ≤ columns) × (columns ≤ 64)
Fits domain.Texts = Unit {0}
Fits (domain.OptInts lo hi) = IsRange item_limit lo hi
Fits (domain.Ints lo hi size) = IsRange item_limit lo hi × FitsSize size
Fits (domain.Cats n size) = FewCategories n × FitsSize size
Fits (domain.Int lo hi) = IsRange number_limit lo hi
Fits (domain.Cat n) = FewCategories n
Fits (domain.IntVec len lo hi) = FewCategories len × IsRange number_limit lo hi

-- a length is the size, where one is given, and else at most 2 ^ 30
abbrev pub HasSize : Option ℕ → ℕ → Type 0
HasSize None n = n ≤ 2 ^ 30
HasSize (Some size) n = n ≡ size

-- the domain has the value: it is of the same kind, and its elements and lengths are as the domain says
abbrev pub Has : Domain → Value → Type 0
Has (domain.Rows columns) (value.Rows rows) = (length rows ≤ 2 ^ 30) × All (λ cells. length cells ≡ columns) rows
Has domain.Texts (value.Texts texts) = length texts ≤ 2 ^ 30
Has (domain.OptInts lo hi) (value.OptInts xs) = (length xs ≤ 2 ^ 30) × All (λ x. IfSome x (IsBetween lo hi)) xs
Has (domain.Ints lo hi size) (value.Ints xs) = HasSize size (length xs) × All (IsBetween lo hi) xs
Has (domain.Cats n size) (value.Cats xs) = HasSize size (length xs) × All (λ x. x < n) xs
Has (domain.Int lo hi) (value.Int z) = IsBetween lo hi z
Has (domain.Cat n) (value.Cat x) = x < n
Has (domain.IntVec len lo hi) (value.IntVec xs) = (length xs ≡ len) × All (IsBetween lo hi) xs
Has _ _ = ⊥
