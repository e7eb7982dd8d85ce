-- How the answer of a release is written.
use Rattle.std.specs.Prelude.{ℕ, ℤ, List, [], ◌∷◌, ◌++◌, map, codes}
use Rattle.std.specs.Fmt as fmt
use Rattle.std.specs.List.{join_with_byte}
use Rattle.dp_law.specs.declared.pieces.Piece.{Piece}
use Rattle.dp_law.specs.declared.pieces.Piece.TheVariants as piece

-- numbers, with a comma between each two
abbrev pub numbers_text : List ℤ → List ℕ
numbers_text cells = join_with_byte 44 (map fmt.signed_decimal cells)

-- a number as it is, a category behind a hash sign, and a vector in brackets
abbrev pub piece_text : Piece → List ℕ
piece_text (piece.Int number) = fmt.signed_decimal number
piece_text (piece.Cat number) = codes "#" ++ fmt.decimal number
piece_text (piece.IntVec cells) = codes "[" ++ (numbers_text cells ++ codes "]")

-- pieces, with a semicolon between each two
abbrev pub pieces_text : List Piece → List ℕ
pieces_text pieces = join_with_byte 59 (map piece_text pieces)

-- one piece as it is, and others in parentheses
abbrev pub answer_text : List Piece → List ℕ
answer_text (one ∷ []) = piece_text one
answer_text pieces = codes "(" ++ (pieces_text pieces ++ codes ")")
