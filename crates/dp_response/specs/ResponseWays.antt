-- How many draws give each answer.
use Rattle.std.specs.Prelude.{◌≡◌, ℕ, ◌<◌, ◌≤◌, ◌==◌, List, [], ◌∷◌, if◌then◌else◌, nat_lt}
use Rattle.dp_num.specs.Limits.{Fraction}
use Rattle.dp_domain.specs.declared.values.Value.TheVariants as value
use Rattle.dp_law.specs.declared.pieces.Piece.{Piece}
use Rattle.dp_law.specs.declared.pieces.Piece.TheVariants as piece
use Rattle.dp_law.specs.Mechanism.{ways}
use Rattle.dp_response.specs.Response.{ReplyNumbers, response}

-- high for the true value, low for each other category below n, and none for anything else
abbrev pub draws_for : ReplyNumbers → ℕ → List Piece → ℕ
draws_for c truth (piece.Cat a ∷ []) = if a == truth then c.high else if nat_lt a c.n then c.low else 0
draws_for c truth _ = 0

-- the number of draws that give an answer on a value of the domain
abbrev pub WaysLaw : Type 0
WaysLaw = (ratio : Fraction) (u : ℕ) (c : ReplyNumbers) (truth : ℕ) (answer : List Piece) → 1 ≤ c.low → truth < c.n
    → ways (response ratio u c) (value.Cat truth) answer ≡ draws_for c truth answer
