-- How many draw lists give each answer of geometric noise, in closed form.
use Rattle.std.specs.Prelude.{◌≡◌, ℕ, ◌+◌, ◌-◌, ◌*◌, ◌^◌, ◌<◌, ℤ, ◌≤ℤ◌, ◌||◌, List, [], ◌∷◌, if◌then◌else◌, int_lt, true}
use Rattle.std.specs.Ordering.{int_eq}
use Rattle.dp_num.specs.Limits.{Fraction}
use Rattle.dp_domain.specs.declared.domains.Domain.{Domain}
use Rattle.dp_domain.specs.declared.values.Value.{Value}
use Rattle.dp_domain.specs.declared.values.Value.TheVariants as value
use Rattle.dp_domain.specs.Domains.{Has}
use Rattle.dp_law.specs.declared.pieces.Piece.{Piece}
use Rattle.dp_law.specs.declared.pieces.Piece.TheVariants as piece
use Rattle.dp_law.specs.Mechanism.{ways}
use Rattle.dp_geometric.specs.OneCell.{CellNumbers, width}
use Rattle.dp_geometric.specs.CellLaw.{away}
use Rattle.dp_geometric.specs.Geometric.{is_numeric, geometric}

-- of one cell: none outside the range; all where there is one answer alone; the ends also take what falls beyond them
abbrev pub cell_draws_for : CellNumbers → ℤ → ℤ → ℕ
cell_draws_for cell v a = if int_lt a cell.lo || int_lt cell.hi a then 0
    else if int_eq cell.lo cell.hi then cell.high + cell.low
    else (if int_eq a cell.lo || int_eq a cell.hi then cell.high else cell.high - cell.low)
    * cell.low ^ away cell v a * cell.high ^ (width cell - away cell v a)

-- of as many cells as answers: the product of each cell's number
unfoldable pub cells_draws_for : CellNumbers → List ℤ → List ℤ → ℕ
cells_draws_for cell [] [] = 1
cells_draws_for cell (z ∷ zs) (a ∷ answers) = cell_draws_for cell z a * cells_draws_for cell zs answers
cells_draws_for cell _ _ = 0

-- of a number or of a vector; an answer of another kind, or of no piece or several, is given by none
abbrev pub draws_for : CellNumbers → Value → List Piece → ℕ
draws_for cell (value.Int z) (piece.Int a ∷ []) = cell_draws_for cell z a
draws_for cell (value.IntVec zs) (piece.IntVec answers ∷ []) = cells_draws_for cell zs answers
draws_for cell _ _ = 0

-- the number of draw lists that give an answer on a value of the domain
abbrev pub WaysLaw : Type 0
WaysLaw = (input : Domain) (ratio : Fraction) (u : ℕ) (cell : CellNumbers) (v : Value) (answer : List Piece)
    → is_numeric input ≡ true → Has input v → cell.lo ≤ℤ cell.hi → cell.low < cell.high
    → ways (geometric input ratio u cell) v answer ≡ draws_for cell v answer
