-- The test of equality tells equal answers from different ones.
use Rattle.std.proofs.Common.{◌≡◌, List, ap}
use Rattle.std.specs.Prelude.{Decides}
use Rattle.std.specs.Cmp.Lexicographic.{pointwise_decides}
use Rattle.dp_domain.proofs.Equality.{nat_eq-decides, int_eq-decides}
use Rattle.dp_law.specs.declared.pieces.Piece.{Piece}
use Rattle.dp_law.specs.declared.pieces.Piece.TheVariants as piece
use Rattle.dp_law.specs.AnswerEquality.{piece_eq, same_answer}

pub piece_eq-decides : (x y : Piece) → Decides (piece_eq x y) (x ≡ y)
piece_eq-decides (piece.Int x) (piece.Int y) = let told = int_eq-decides x y in (λ h. ap piece.Int (told.0 h), λ (e : piece.Int x ≡ piece.Int y). told.1 (cc))
piece_eq-decides (piece.Cat x) (piece.Cat y) = let told = nat_eq-decides x y in (λ h. ap piece.Cat (told.0 h), λ (e : piece.Cat x ≡ piece.Cat y). told.1 (cc))
piece_eq-decides (piece.IntVec xs) (piece.IntVec ys) = let told = pointwise_decides int_eq-decides xs ys in (λ h. ap piece.IntVec (told.0 h), λ (e : piece.IntVec xs ≡ piece.IntVec ys). told.1 (cc))
piece_eq-decides (piece.Int x) (piece.Cat y) = (λ h. absurd (cc), λ h. absurd (cc))
piece_eq-decides (piece.Int x) (piece.IntVec y) = (λ h. absurd (cc), λ h. absurd (cc))
piece_eq-decides (piece.Cat x) (piece.Int y) = (λ h. absurd (cc), λ h. absurd (cc))
piece_eq-decides (piece.Cat x) (piece.IntVec y) = (λ h. absurd (cc), λ h. absurd (cc))
piece_eq-decides (piece.IntVec x) (piece.Int y) = (λ h. absurd (cc), λ h. absurd (cc))
piece_eq-decides (piece.IntVec x) (piece.Cat y) = (λ h. absurd (cc), λ h. absurd (cc))

pub same_answer-decides : (x y : List Piece) → Decides (same_answer x y) (x ≡ y)
same_answer-decides = pointwise_decides piece_eq-decides
