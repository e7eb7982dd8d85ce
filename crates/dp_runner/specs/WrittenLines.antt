-- The lines that a run writes.
use Rattle.std.specs.Prelude.{ℕ, ◌==◌, Bool, true, List, [], ◌∷◌, Option, IsTrue}
use Rattle.dp_io.specs.Sink.{AddsFront}

-- nothing, or bytes whose last is a line feed
abbrev pub are_lines : List ℕ → Bool
are_lines [] = true
are_lines (byte ∷ []) = byte == 10
are_lines (byte ∷ next ∷ rest) = are_lines (next ∷ rest)

-- the sink gained a front of the bytes, of whole lines
pub record AddsLines (old new : Option (List ℕ)) (bytes : List ℕ) : Type 0 where
  pub gains : AddsFront old new bytes
  pub whole : IsTrue (are_lines gains.front)
