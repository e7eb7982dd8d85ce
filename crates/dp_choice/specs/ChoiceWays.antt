-- How many draws choose each cell.
use Rattle.std.specs.Prelude.{◌≡◌, ◌≢◌, ℕ, ◌+◌, ◌-◌, ◌*◌, ◌≤◌, ◌<◌, ℤ, List, [], ◌∷◌, length, slice_index}
use Rattle.std.specs.List.{sum}
use Rattle.dp_num.specs.Limits.{Fraction}
use Rattle.dp_domain.specs.declared.values.Value.TheVariants as value
use Rattle.dp_law.specs.declared.pieces.Piece.{Piece}
use Rattle.dp_law.specs.declared.pieces.Piece.TheVariants as piece
use Rattle.dp_law.specs.Mechanism.{ways}
use Rattle.dp_choice.specs.Weights.{ChoiceNumbers, weights}
use Rattle.dp_choice.specs.Shares.{share}
use Rattle.dp_choice.specs.Choice.{choice_of}

-- the number of draws of the cell j: what its weight adds to the share, so that it lies by less than 1 from the exact
-- share of n, said as products with the sum of the weights
pub record IsShareOf (n : ℕ) (ws : List ℕ) (j ways : ℕ) : Type 0 where
  pub exact : ways ≡ share n ws (j + 1) - share n ws j
  pub least : n * slice_index ws j < ways * sum ws + sum ws
  pub most : ways * sum ws < n * slice_index ws j + sum ws

-- each cell of a vector has the draws of its share, and no other answer has any: no piece, a piece of another kind,
-- several pieces, or a category that is no cell's place
pub record WaysLaw : Type 0 where
  pub cell : (n first : ℕ) (ratio : Fraction) (u : ℕ) (c : ChoiceNumbers) (cells : List ℤ) (j : ℕ)
      → 1 ≤ first → 1 ≤ c.low → c.low ≤ c.high → j < length cells
      → IsShareOf n (weights first c cells) j
      (ways (choice_of n first ratio u c) (value.IntVec cells) (piece.Cat j ∷ []))
  pub other : (n first : ℕ) (ratio : Fraction) (u : ℕ) (c : ChoiceNumbers) (cells : List ℤ) (answer : List Piece)
      → 1 ≤ length cells → ((j : ℕ) → j < length cells → answer ≢ piece.Cat j ∷ [])
      → ways (choice_of n first ratio u c) (value.IntVec cells) answer ≡ 0
