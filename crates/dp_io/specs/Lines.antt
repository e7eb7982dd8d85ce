-- The lines of a text, and what a reader of lines holds.
use Rattle.std.specs.Prelude.{◌≡◌, ℕ, Bool, ◌==◌, ◌&&◌, ◌||◌, not, List, [], ◌∷◌, ◌++◌, length, take, nat_le, nat_lt, if◌then◌else◌, Option, option_map}
use Rattle.std.specs.List.{before_first, after_first, slice_split, take_while, list_any}
use Rattle.dp_io.specs.ReadBuffer.{ReadsBehind}

abbrev pub is_line_feed : ℕ → Bool
is_line_feed byte = byte == 10

-- the first line of a text, without its line feed
abbrev pub first_line : List ℕ → List ℕ
first_line text = before_first is_line_feed text

-- the text after the line feed of its first line, or nothing where that line has none
abbrev pub after_first_line : List ℕ → List ℕ
after_first_line text = after_first is_line_feed text

-- the pieces without the last, where that is empty
abbrev pub without_empty_last : List (List ℕ) → List (List ℕ)
without_empty_last [] = []
without_empty_last (piece ∷ []) = if length piece == 0 then [] else piece ∷ []
without_empty_last (piece ∷ next ∷ pieces) = piece ∷ without_empty_last (next ∷ pieces)

-- the pieces between the line feeds of a text; an empty rest after the last line feed is none
unfoldable pub lines_of : List ℕ → List (List ℕ)
lines_of text = without_empty_last (slice_split is_line_feed text)

-- the pieces without the last
abbrev pub without_last : List (List ℕ) → List (List ℕ)
without_last [] = []
without_last (piece ∷ []) = []
without_last (piece ∷ next ∷ pieces) = piece ∷ without_last (next ∷ pieces)

-- the lines of a text that end with a line feed: the pieces between its line feeds, without what is after the last
unfoldable pub ended_lines : List ℕ → List (List ℕ)
ended_lines text = without_last (slice_split is_line_feed text)

-- a line of at most 65,536 bytes
abbrev pub is_short : List ℕ → Bool
is_short line = nat_le (length line) 65536

-- the lines before the first that is not short or comes after `most` others
unfoldable pub lines_within : ℕ → List ℕ → List (List ℕ)
lines_within most text = take_while is_short (take most (lines_of text))

-- there is such a line
unfoldable pub has_line_over : ℕ → List ℕ → Bool
has_line_over most text =
    list_any (λ line. not (is_short line)) (lines_of text) || nat_lt most (length (lines_of text))

-- a reader of lines: the slot that it reads, the last line, the bytes read ahead, and whether a read came to
-- the end of the slot
pub record LinesValue : Type 0 where
  pub slot : ℕ
  pub line : List ℕ
  pub read_ahead : List ℕ
  pub at_end : Bool

-- the text that was not given yet: the bytes read ahead, then what is left of the slot, unless its end was read
abbrev pub remaining : LinesValue → Option (List ℕ) → Option (List ℕ)
remaining lines left =
    option_map (λ rest. if lines.at_end then lines.read_ahead else lines.read_ahead ++ rest) left

-- the bytes read ahead have no line feed, and no read came to the end
abbrev pub needs_read : LinesValue → Bool
needs_read lines = not lines.at_end && not (list_any is_line_feed lines.read_ahead)

-- a read moved a piece to the bytes read ahead, after the last line was let go; an empty piece is the end
pub record ReadsAhead (old_left new_left : Option (List ℕ)) (old new : LinesValue) : Type 0 where
  pub count : ℕ
  pub slot : new.slot ≡ old.slot
  pub line : new.line ≡ []
  pub at_end : new.at_end ≡ (count == 0)
  pub read : ReadsBehind old_left new_left count old.read_ahead new.read_ahead
