-- The numbers of a file of draws.
use Rattle.std.specs.Prelude.{ℕ, ◌==◌, ◌||◌, Bool, List, [], ◌∷◌, Option, Some, None, filter, length, nat_lt}
use Rattle.std.specs.List.{slice_split}
use Rattle.dp_count.specs.Digits.{short_decimal}

-- a space, a tab, a line feed or a carriage return
unfoldable pub is_blank : ℕ → Bool
is_blank byte = byte == 32 || byte == 9 || byte == 10 || byte == 13

-- the pieces of at least one byte between the blanks
abbrev pub tokens : List ℕ → List (List ℕ)
tokens bytes = filter (λ token. nat_lt 0 (length token)) (slice_split is_blank bytes)

-- a number and those after it, or none
abbrev pub number_first : Option ℕ → List ℕ → List ℕ
number_first None numbers = []
number_first (Some number) numbers = number ∷ numbers

-- the numbers of 1 to 19 digits that the tokens spell, before the first token that spells none
unfoldable pub leading_numbers : List (List ℕ) → List ℕ
leading_numbers [] = []
leading_numbers (token ∷ tokens) = number_first (short_decimal 19 token) (leading_numbers tokens)

-- the numbers that a file of draws spells
abbrev pub drawn_numbers : List ℕ → List ℕ
drawn_numbers bytes = leading_numbers (tokens bytes)
