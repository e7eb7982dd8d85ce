-- A measurement whose answers are changed after their release.
use Rattle.std.specs.Prelude.{List}
use Rattle.dp_law.specs.declared.pieces.Piece.{Piece}
use Rattle.dp_law.specs.Mechanism.{Mechanism}

-- each answer is changed, and everything else stays: the domain, the metric, the ratio, the draws, the number of pieces
-- and the loss
abbrev pub changed_by : (List Piece → List Piece) → Mechanism → Mechanism
changed_by change m = record m { function = λ v draws. change (m.function v draws) }
