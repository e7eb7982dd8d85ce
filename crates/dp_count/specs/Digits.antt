-- What decimal digits spell.
use Rattle.std.specs.Prelude.{ℕ, ℤ, pos, neg_ℤ, ◌<ℤ◌, ◌+◌, ◌*◌, ◌-◌, ◌^◌, ◌==◌, Bool, true, false, List, [], ◌∷◌, length, Option, Some, None, if◌then◌else◌, nat_le, fold, option_map, option_and_then}
use Rattle.std.specs.List.{list_all}
use Rattle.std.specs.Char.{is_ascii_digit}
use Rattle.dp_count.specs.AtMost.{at_most}

-- the number that a list of digits spells, the most significant first
abbrev pub digits_value : List ℕ → ℕ
digits_value bytes = fold (λ n byte. 10 * n + (byte - 48)) 0 bytes

-- one or more ASCII digits, and nothing else
abbrev pub are_digits : List ℕ → Bool
are_digits [] = false
are_digits (byte ∷ bytes) = list_all is_ascii_digit (byte ∷ bytes)

-- the number that one or more digits spell
unfoldable pub decimal : List ℕ → Option ℕ
decimal bytes = if are_digits bytes then Some (digits_value bytes) else None

-- a number that a word of 64 bits holds
abbrev pub word : Option ℕ → Option ℕ
word number = option_and_then (at_most (2 ^ 64 - 1)) number

-- the number that 1 to `longest` digits spell
unfoldable pub short_decimal : ℕ → List ℕ → Option ℕ
short_decimal longest bytes = if nat_le (length bytes) longest then decimal bytes else None

-- whether the bytes begin with a `-`, and the bytes after it, or else all
unfoldable pub without_sign : List ℕ → Bool × List ℕ
without_sign [] = (false, [])
without_sign (byte ∷ bytes) = if byte == 45 then (true, bytes) else (false, byte ∷ bytes)

-- the number, with a `-` before it or without
abbrev pub with_sign : Bool → ℕ → ℤ
with_sign negative n = if negative then neg_ℤ (pos n) else pos n

-- the number of an optional `-` and digits, where `spelled` says what the digits spell
abbrev pub by_sign : (List ℕ → Option ℕ) → List ℕ → Option ℤ
by_sign spelled bytes = option_map (with_sign (without_sign bytes).0) (spelled (without_sign bytes).1)

-- the number that an optional `-` and 1 to `longest` digits spell
unfoldable pub signed_decimal : ℕ → List ℕ → Option ℤ
signed_decimal longest bytes = by_sign (short_decimal longest) bytes

-- the number lies strictly between -limit and limit
abbrev pub IsWithin : ℕ → ℤ → Type 0
IsWithin limit z = (neg_ℤ (pos limit) <ℤ z) × (z <ℤ pos limit)
