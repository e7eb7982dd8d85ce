-- The number of draw lists of every answer of geometric noise.
use Rattle.std.proofs.Common.{◌≡◌, ◌+◌, ◌-◌, ◌*◌, ◌^◌, ◌<◌, ℤ, ◌≤ℤ◌, ◌<ℤ◌, Bool, true, false, ◌||◌, cond, List, [], ◌∷◌, map, inl, inr, refl, ◌∙◌, arith}
use Rattle.std.specs.Prelude.{int_lt}
use Rattle.std.specs.Ordering.{int_eq}
use Rattle.std.proofs.lemmas.Int.{ints}
use Rattle.std.proofs.lemmas.Bool.Decides.{Decides-int_eq}
use Rattle.dp_count.specs.Slots.{product_of_ways}
use Rattle.dp_count.proofs.Slots.{count-replies}
use Rattle.dp_domain.specs.declared.domains.Domain.TheVariants as domain
use Rattle.dp_domain.specs.declared.values.Value.TheVariants as value
use Rattle.dp_law.specs.declared.pieces.Piece.{Piece}
use Rattle.dp_law.specs.declared.pieces.Piece.TheVariants as piece
use Rattle.dp_geometric.specs.OneCell.{CellNumbers, width}
use Rattle.dp_geometric.specs.CellLaw as cell_law
use Rattle.dp_geometric.specs.CellLaw.{away, CellCounts}
use Rattle.dp_geometric.specs.CellProof.{cell-counts}
use Rattle.dp_geometric.specs.Geometric.{cell_slot}
use Rattle.dp_geometric.specs.GeometricProof.{number_ways, number-is, vector_ways, vector-is}
use Rattle.dp_geometric.specs.GeometricWays.{cell_draws_for, cells_draws_for, draws_for, WaysLaw}

below : (a lo : ℤ) → int_lt a lo ≡ true → a <ℤ lo
below a lo h = grind (arith, ints)

not-below : (a lo : ℤ) → int_lt a lo ≡ false → lo ≤ℤ a
not-below a lo h = grind (arith, ints)

apart : (a b : ℤ) → int_eq a b ≡ false → b ≤ℤ a → b <ℤ a
apart a b h k = grind (arith, ints)

single-answer : (lo hi a : ℤ) → lo ≡ hi → lo ≤ℤ a → a ≤ℤ hi → a ≡ lo
single-answer lo hi a e h k = omega (arith, ints)

-- one cell, by the tests of the closed form
cell-by : (cell : CellNumbers) (v a : ℤ) (under over one first last : Bool) → int_lt a cell.lo ≡ under → int_lt cell.hi a ≡ over → int_eq cell.lo cell.hi ≡ one → int_eq a cell.lo ≡ first → int_eq a cell.hi ≡ last →
    cell.lo ≤ℤ cell.hi → CellCounts cell →
    cell_law.ways cell v a ≡ cond (under || over) 0 (cond one (cell.high + cell.low) (cond (first || last) cell.high (cell.high - cell.low) * cell.low ^ away cell v a * cell.high ^ (width cell - away cell v a)))
cell-by cell v a true over one first last u o s f l order counts = counts.outside v a (inl (below a cell.lo u))
cell-by cell v a false true one first last u o s f l order counts = counts.outside v a (inr (below cell.hi a o))
cell-by cell v a false false true first last u o s f l order counts =
    let same = (Decides-int_eq cell.lo cell.hi).0 s in
    counts.single v a same (single-answer cell.lo cell.hi a same (not-below a cell.lo u) (not-below cell.hi a o))
cell-by cell v a false false false true last u o s f l order counts = counts.ends v a (grind (arith, ints)) (inl ((Decides-int_eq a cell.lo).0 f))
cell-by cell v a false false false false true u o s f l order counts = counts.ends v a (grind (arith, ints)) (inr ((Decides-int_eq a cell.hi).0 l))
cell-by cell v a false false false false false u o s f l order counts = counts.inside v a (grind (arith, ints)) (grind (arith, ints))

cell-is : (cell : CellNumbers) (v a : ℤ) → cell.lo ≤ℤ cell.hi → cell.low < cell.high → cell_law.ways cell v a ≡ cell_draws_for cell v a
cell-is cell v a order less =
    cell-by cell v a (int_lt a cell.lo) (int_lt cell.hi a) (int_eq cell.lo cell.hi) (int_eq a cell.lo) (int_eq a cell.hi) refl refl refl refl refl order (cell-counts cell order less)

-- the cells of a vector
cells-are : (cell : CellNumbers) (zs answers : List ℤ) → cell.lo ≤ℤ cell.hi → cell.low < cell.high →
    product_of_ways int_eq (map (cell_slot cell) zs) answers ≡ cells_draws_for cell zs answers
unfolding product_of_ways cells_draws_for cell_law.ways
cells-are cell [] [] order less = refl
cells-are cell [] (a ∷ answers) order less = refl
cells-are cell (z ∷ zs) [] order less = refl
cells-are cell (z ∷ zs) (a ∷ answers) order less =
    rw (cell-is cell z a order less, cells-are cell zs answers order less) refl

number-draws : (cell : CellNumbers) (z : ℤ) (answer : List Piece) → cell.lo ≤ℤ cell.hi → cell.low < cell.high → number_ways cell z answer ≡ draws_for cell (value.Int z) answer
unfolding number_ways
number-draws cell z [] order less = refl
number-draws cell z (piece.Cat a ∷ rest) order less = refl
number-draws cell z (piece.IntVec zs ∷ rest) order less = refl
number-draws cell z (piece.Int a ∷ []) order less = cell-is cell z a order less
number-draws cell z (piece.Int a ∷ (other ∷ rest)) order less = refl

vector-draws : (cell : CellNumbers) (zs : List ℤ) (answer : List Piece) → cell.lo ≤ℤ cell.hi → cell.low < cell.high → vector_ways cell zs answer ≡ draws_for cell (value.IntVec zs) answer
unfolding vector_ways
vector-draws cell zs [] order less = refl
vector-draws cell zs (piece.Cat a ∷ rest) order less = refl
vector-draws cell zs (piece.Int a ∷ rest) order less = refl
vector-draws cell zs (piece.IntVec wanted ∷ []) order less =
    count-replies int_eq (map (cell_slot cell) zs) wanted ∙ cells-are cell zs wanted order less
vector-draws cell zs (piece.IntVec wanted ∷ (other ∷ rest)) order less = refl

pub geometric-ways : WaysLaw
geometric-ways (domain.Int least most) ratio u cell (value.Int z) answer numeric has order less =
    number-is least most z ratio u cell answer ∙ number-draws cell z answer order less
geometric-ways (domain.Int least most) ratio u cell v answer numeric has order less = absurd has
geometric-ways (domain.IntVec len least most) ratio u cell (value.IntVec zs) answer numeric has order less =
    vector-is least most len zs ratio u cell answer has.0 ∙ vector-draws cell zs answer order less
geometric-ways (domain.IntVec len least most) ratio u cell v answer numeric has order less = absurd has
geometric-ways input ratio u cell v answer numeric has order less = absurd (cc)
