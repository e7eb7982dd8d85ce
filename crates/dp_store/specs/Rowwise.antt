-- Transformations that give at most one element for each element of a list.
use Rattle.std.specs.Prelude.{◌≡◌, ℕ, ◌++◌, Bool, true, false, List, length, All}
use Rattle.dp_domain.specs.declared.values.Value.{Value}
use Rattle.dp_domain.specs.declared.values.Value.TheVariants as value
use Rattle.dp_chain.specs.declared.any_transformation.AnyTransformation.{AnyTransformation}
use Rattle.dp_chain.specs.declared.any_transformation.AnyTransformation.TheVariants as any

-- the transformation gives at most one element for each element of a list, whatever the others are
abbrev pub is_rowwise : AnyTransformation → Bool
is_rowwise (any.Filter part) = true
is_rowwise (any.Select part) = true
is_rowwise (any.Cast part) = true
is_rowwise (any.Categories part) = true
is_rowwise (any.Impute part) = true
is_rowwise (any.DropNone part) = true
is_rowwise (any.Clamp part) = true
is_rowwise (any.Bins part) = true
is_rowwise _ = false

abbrev pub IsRowwise : AnyTransformation → Type 0
IsRowwise stage = is_rowwise stage ≡ true

-- so does each of the transformations
abbrev pub AllRowwise : List AnyTransformation → Type 0
AllRowwise stages = All IsRowwise stages

-- how many elements a list has, and any other value none
abbrev pub list_len : Value → ℕ
list_len (value.Rows rows) = length rows
list_len (value.Texts texts) = length texts
list_len (value.OptInts xs) = length xs
list_len (value.Ints xs) = length xs
list_len (value.Cats xs) = length xs
list_len _ = 0

-- the elements of two lists of one kind, one after the other; of any other two values the first
abbrev pub joined : Value → Value → Value
joined (value.Rows xs) (value.Rows ys) = value.Rows (xs ++ ys)
joined (value.Texts xs) (value.Texts ys) = value.Texts (xs ++ ys)
joined (value.OptInts xs) (value.OptInts ys) = value.OptInts (xs ++ ys)
joined (value.Ints xs) (value.Ints ys) = value.Ints (xs ++ ys)
joined (value.Cats xs) (value.Cats ys) = value.Cats (xs ++ ys)
joined v _ = v
