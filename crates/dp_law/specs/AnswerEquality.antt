-- When two answers are the same.
use Rattle.std.specs.Prelude.{Bool, false, List, nat_eq}
use Rattle.std.specs.Ordering.{int_eq}
use Rattle.std.specs.Cmp.Lexicographic.{pointwise}
use Rattle.dp_law.specs.declared.pieces.Piece.{Piece}
use Rattle.dp_law.specs.declared.pieces.Piece.TheVariants as piece

-- two pieces of one kind with the same numbers
abbrev pub piece_eq : Piece → Piece → Bool
piece_eq (piece.Int x) (piece.Int y) = int_eq x y
piece_eq (piece.Cat x) (piece.Cat y) = nat_eq x y
piece_eq (piece.IntVec xs) (piece.IntVec ys) = pointwise int_eq xs ys
piece_eq _ _ = false

-- as many pieces, the same at each place
abbrev pub same_answer : List Piece → List Piece → Bool
same_answer = pointwise piece_eq
