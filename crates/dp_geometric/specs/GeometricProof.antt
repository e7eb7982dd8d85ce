-- Geometric noise is private, on a number and on a vector.
use Rattle.std.proofs.Common.{◌≡◌, ℕ, zero, suc, ◌+◌, ◌*◌, ◌^◌, ◌≤◌, ◌<◌, ℤ, ◌-ℤ◌, ◌≤ℤ◌, nat_abs, pos, true, List, [], ◌∷◌, ◌++◌, length, replicate, map, refl, sym, ◌∙◌, ap, subst, arith, length-append}
use Rattle.std.specs.List.{sum}
use Rattle.std.specs.Prelude.{All}
use Rattle.std.specs.Ordering.{int_eq}
use Rattle.std.specs.Cmp.Lexicographic.{pointwise}
use Rattle.std.proofs.lemmas.Int.{ints}
use Rattle.std.proofs.lemmas.List.{length-replicate}
use Rattle.std.proofs.lemmas.List.Elements.{All-append, All-cons, All-nil, All-replicate}
use Rattle.std.proofs.Math.Bool.{and-false, and-true}
use Rattle.std.proofs.Math.Nat.{mul-le-mul, suc-mul}
use Rattle.dp_count.specs.DrawLists.{count}
use Rattle.dp_count.specs.Ratios.{KeepsRatio}
use Rattle.dp_count.specs.Slots.{joined_shape, replies, SlotsKeepRatios}
use Rattle.dp_count.proofs.Counting.{count-same, count-never}
use Rattle.dp_count.proofs.Ratios.{ratio-more, ratio-none, ratio-powers}
use Rattle.dp_count.proofs.Slots.{replies-ratio}
use Rattle.dp_num.specs.Limits.{Fraction, ArePowers}
use Rattle.dp_domain.specs.Distance.{l1}
use Rattle.dp_domain.proofs.Gaps.{gaps, gaps-sum}
use Rattle.dp_domain.specs.Domains.{Fits, Has}
use Rattle.dp_domain.specs.Metrics.{Within, SuitsMetric}
use Rattle.dp_domain.specs.declared.domains.Domain.{Domain}
use Rattle.dp_domain.specs.declared.domains.Domain.TheVariants as domain
use Rattle.dp_domain.specs.declared.values.Value.{Value}
use Rattle.dp_domain.specs.declared.values.Value.TheVariants as value
use Rattle.dp_law.specs.declared.pieces.Piece.{Piece}
use Rattle.dp_law.specs.declared.pieces.Piece.TheVariants as piece
use Rattle.dp_law.specs.AnswerEquality.{same_answer}
use Rattle.dp_law.specs.Mechanism.{ways, IsBelowOne, IsBound, IsPrivate}
use Rattle.dp_law.proofs.Caps.{capped-same, capped-le}
use Rattle.dp_geometric.specs.OneCell.{CellNumbers, width, cell_shape, cell_out}
use Rattle.dp_geometric.specs.CellLaw as cell_law
use Rattle.dp_geometric.specs.CellLaw.{CellPrivate}
use Rattle.dp_geometric.specs.CellProof.{cell-private}
use Rattle.dp_geometric.specs.Geometric.{cells_shape, cell_slot, cells_out, add_noise, is_numeric, numeric_metric, noise_shape, geometric}

-- how many draw lists of one cell give an answer of one number
unfoldable pub number_ways : CellNumbers → ℤ → List Piece → ℕ
number_ways cell z (piece.Int a ∷ []) = cell_law.ways cell z a
number_ways cell z _ = 0

ways-number : (cell : CellNumbers) (z : ℤ) (answer : List Piece) → count (cell_shape cell) (λ draws. same_answer (add_noise cell (value.Int z) draws) answer) ≡ number_ways cell z answer
unfolding number_ways cell_law.ways
ways-number cell z [] = count-never (cell_shape cell) _ (λ d f. refl)
ways-number cell z (piece.Cat a ∷ rest) = count-never (cell_shape cell) _ (λ d f. refl)
ways-number cell z (piece.IntVec zs ∷ rest) = count-never (cell_shape cell) _ (λ d f. refl)
ways-number cell z (piece.Int a ∷ []) = count-same (cell_shape cell) _ _ (λ d f. and-true (int_eq (cell_out cell z d) a))
ways-number cell z (piece.Int a ∷ (other ∷ rest)) = count-never (cell_shape cell) _ (λ d f. and-false (int_eq (cell_out cell z d) a))

number-near : (cell : CellNumbers) (x y : ℤ) (d : ℕ) (answer : List Piece) → cell.lo ≤ℤ cell.hi → cell.low < cell.high → nat_abs (x -ℤ y) ≤ d → KeepsRatio cell.low cell.high d (number_ways cell x answer) (number_ways cell y answer)
unfolding number_ways CellPrivate
number-near cell x y d [] h k near = ratio-none cell.low cell.high d 0
number-near cell x y d (piece.Cat a ∷ rest) h k near = ratio-none cell.low cell.high d 0
number-near cell x y d (piece.IntVec zs ∷ rest) h k near = ratio-none cell.low cell.high d 0
number-near cell x y d (piece.Int a ∷ []) h k near = cell-private cell h k x y a d near
number-near cell x y d (piece.Int a ∷ (other ∷ rest)) h k near = ratio-none cell.low cell.high d 0

pub number-is : (least most z : ℤ) (ratio : Fraction) (u : ℕ) (cell : CellNumbers) (answer : List Piece) → ways (geometric (domain.Int least most) ratio u cell) (value.Int z) answer ≡ number_ways cell z answer
unfolding ways
number-is least most z ratio u cell answer = ways-number cell z answer

-- the cells of a vector as slots, one after the other
cells-joined : (cell : CellNumbers) (zs : List ℤ) → cells_shape (length zs) cell ≡ joined_shape (map (cell_slot cell) zs)
unfolding cells_shape joined_shape
cells-joined cell [] = refl
cells-joined cell (z ∷ zs) = ap (λ s. cell_shape cell ++ s) (cells-joined cell zs)

slots-near : (cell : CellNumbers) (xs ys : List ℤ) → cell.lo ≤ℤ cell.hi → cell.low < cell.high → length xs ≡ length ys →
    SlotsKeepRatios int_eq cell.low cell.high (gaps xs ys) (map (cell_slot cell) xs) (map (cell_slot cell) ys)
unfolding gaps SlotsKeepRatios CellPrivate cell_law.ways
slots-near cell [] [] h k same = tt
slots-near cell [] (y ∷ ys) h k same = absurd (omega arith)
slots-near cell (x ∷ xs) [] h k same = absurd (omega arith)
slots-near cell (x ∷ xs) (y ∷ ys) h k same =
    (λ reply. cell-private cell h k x y reply (nat_abs (x -ℤ y)) (omega arith), slots-near cell xs ys h k (omega arith))

-- how many draw lists of so many cells give an answer of one vector
unfoldable pub vector_ways : CellNumbers → List ℤ → List Piece → ℕ
vector_ways cell zs (piece.IntVec wanted ∷ []) = count (joined_shape (map (cell_slot cell) zs)) (λ draws. pointwise int_eq (replies (map (cell_slot cell) zs) draws) wanted)
vector_ways cell zs _ = 0

vector_test : CellNumbers → List ℤ → List Piece → ℕ
vector_test cell zs answer = count (cells_shape (length zs) cell) (λ draws. same_answer (add_noise cell (value.IntVec zs) draws) answer)

ways-vector : (cell : CellNumbers) (zs : List ℤ) (answer : List Piece) → vector_test cell zs answer ≡ vector_ways cell zs answer
unfolding vector_test vector_ways cells_out
ways-vector cell zs [] = count-never (cells_shape (length zs) cell) _ (λ d f. refl)
ways-vector cell zs (piece.Cat a ∷ rest) = count-never (cells_shape (length zs) cell) _ (λ d f. refl)
ways-vector cell zs (piece.Int a ∷ rest) = count-never (cells_shape (length zs) cell) _ (λ d f. refl)
ways-vector cell zs (piece.IntVec wanted ∷ []) =
    rw (cells-joined cell zs) (count-same (joined_shape (map (cell_slot cell) zs)) _ _ (λ d f. and-true (pointwise int_eq (replies (map (cell_slot cell) zs) d) wanted)))
ways-vector cell zs (piece.IntVec wanted ∷ (other ∷ rest)) = count-never (cells_shape (length zs) cell) _ (λ d f. and-false (pointwise int_eq (cells_out cell zs d) wanted))

vector-near : (cell : CellNumbers) (d : ℕ) (xs ys : List ℤ) (answer : List Piece) → cell.lo ≤ℤ cell.hi → cell.low < cell.high → length xs ≡ length ys → l1 xs ys ≤ d →
    KeepsRatio cell.low cell.high d (vector_ways cell xs answer) (vector_ways cell ys answer)
unfolding vector_ways
vector-near cell d xs ys [] h k same near = ratio-none cell.low cell.high d 0
vector-near cell d xs ys (piece.Cat a ∷ rest) h k same near = ratio-none cell.low cell.high d 0
vector-near cell d xs ys (piece.Int a ∷ rest) h k same near = ratio-none cell.low cell.high d 0
vector-near cell d xs ys (piece.IntVec wanted ∷ (other ∷ rest)) h k same near = ratio-none cell.low cell.high d 0
vector-near cell d xs ys (piece.IntVec wanted ∷ []) h k same near =
    let total = gaps-sum xs ys in
    ratio-more cell.low cell.high (sum (gaps xs ys)) d _ _ (omega arith) (omega arith)
    (replies-ratio int_eq cell.low cell.high (gaps xs ys) (map (cell_slot cell) xs) (map (cell_slot cell) ys) wanted (slots-near cell xs ys h k same))

-- in units of the ratio
units : (ratio : Fraction) (u : ℕ) (cell : CellNumbers) (d x y : ℕ) → ArePowers ratio.p ratio.q u (cell.low, cell.high) → KeepsRatio cell.low cell.high d x y → KeepsRatio ratio.p ratio.q (u * d) x y
units ratio u cell d x y powers h = ratio-powers ratio.p ratio.q u d x y (rw (← powers.low, ← powers.high) h)

private-number : (least most x y : ℤ) (ratio : Fraction) (u : ℕ) (cell : CellNumbers) (d : ℕ) (answer : List Piece) → cell.lo ≤ℤ cell.hi → ArePowers ratio.p ratio.q u (cell.low, cell.high) → nat_abs (x -ℤ y) ≤ d →
    KeepsRatio ratio.p ratio.q (u * d) (ways (geometric (domain.Int least most) ratio u cell) (value.Int x) answer) (ways (geometric (domain.Int least most) ratio u cell) (value.Int y) answer)
unfolding ways
private-number least most x y ratio u cell d answer h powers near =
    units ratio u cell d _ _ powers (rw (ways-number cell x answer, ways-number cell y answer) (number-near cell x y d answer h powers.below_one near))

pub vector-is : (least most : ℤ) (len : ℕ) (zs : List ℤ) (ratio : Fraction) (u : ℕ) (cell : CellNumbers) (answer : List Piece) → length zs ≡ len → ways (geometric (domain.IntVec len least most) ratio u cell) (value.IntVec zs) answer ≡ vector_ways cell zs answer
unfolding ways vector_test
vector-is least most len zs ratio u cell answer same =
    ap (λ n. count (cells_shape n cell) (λ draws. same_answer (add_noise cell (value.IntVec zs) draws) answer)) (sym same) ∙ ways-vector cell zs answer

private-vector : (least most : ℤ) (len : ℕ) (xs ys : List ℤ) (ratio : Fraction) (u : ℕ) (cell : CellNumbers) (d : ℕ) (answer : List Piece) → cell.lo ≤ℤ cell.hi → ArePowers ratio.p ratio.q u (cell.low, cell.high) → length xs ≡ len → length ys ≡ len → l1 xs ys ≤ d →
    KeepsRatio ratio.p ratio.q (u * d) (ways (geometric (domain.IntVec len least most) ratio u cell) (value.IntVec xs) answer) (ways (geometric (domain.IntVec len least most) ratio u cell) (value.IntVec ys) answer)
private-vector least most len xs ys ratio u cell d answer h powers same_x same_y near =
    units ratio u cell d _ _ powers (rw (vector-is least most len xs ratio u cell answer same_x, vector-is least most len ys ratio u cell answer same_y) (vector-near cell d xs ys answer h powers.below_one (omega arith) near))

private-at : (input : Domain) (ratio : Fraction) (u : ℕ) (cell : CellNumbers) (d k : ℕ) (v w : Value) (answer : List Piece) → is_numeric input ≡ true → cell.lo ≤ℤ cell.hi → ArePowers ratio.p ratio.q u (cell.low, cell.high) → u * d ≡ k →
    Has input v → Has input w → Within (numeric_metric input) d v w → KeepsRatio ratio.p ratio.q k (ways (geometric input ratio u cell) v answer) (ways (geometric input ratio u cell) w answer)
private-at (domain.Int least most) ratio u cell d k (value.Int x) (value.Int y) answer numeric h powers same has_v has_w near =
    subst (λ (k : ℕ). KeepsRatio ratio.p ratio.q k (ways (geometric (domain.Int least most) ratio u cell) (value.Int x) answer) (ways (geometric (domain.Int least most) ratio u cell) (value.Int y) answer)) same
    (private-number least most x y ratio u cell d answer h powers near)
private-at (domain.IntVec len least most) ratio u cell d k (value.IntVec xs) (value.IntVec ys) answer numeric h powers same has_v has_w near =
    subst (λ (k : ℕ). KeepsRatio ratio.p ratio.q k (ways (geometric (domain.IntVec len least most) ratio u cell) (value.IntVec xs) answer) (ways (geometric (domain.IntVec len least most) ratio u cell) (value.IntVec ys) answer)) same
    (private-vector least most len xs ys ratio u cell d answer h powers has_v.0 has_w.0 near.1)
private-at (domain.Int least most) ratio u cell d k (value.Int x) w answer numeric h powers same has_v has_w near = absurd has_w
private-at (domain.Int least most) ratio u cell d k v w answer numeric h powers same has_v has_w near = absurd has_v
private-at (domain.IntVec len least most) ratio u cell d k (value.IntVec xs) w answer numeric h powers same has_v has_w near = absurd has_w
private-at (domain.IntVec len least most) ratio u cell d k v w answer numeric h powers same has_v has_w near = absurd has_v
private-at input ratio u cell d k v w answer numeric h powers same has_v has_w near = absurd (cc)

numeric-suits : (input : Domain) → is_numeric input ≡ true → SuitsMetric input (numeric_metric input)
numeric-suits (domain.Int least most) numeric = tt
numeric-suits (domain.IntVec len least most) numeric = tt
numeric-suits input numeric = absurd (cc)

-- every answer is one piece
noise-whole : (input : Domain) (cell : CellNumbers) (v : Value) (draws : List ℕ) → is_numeric input ≡ true → Has input v → length (add_noise cell v draws) ≡ 1
noise-whole (domain.Int least most) cell (value.Int z) draws numeric has = refl
noise-whole (domain.Int least most) cell v draws numeric has = absurd has
noise-whole (domain.IntVec len least most) cell (value.IntVec zs) draws numeric has = refl
noise-whole (domain.IntVec len least most) cell v draws numeric has = absurd has
noise-whole input cell v draws numeric has = absurd (cc)

-- lengths and bounds of the shapes
pub length-cell : (cell : CellNumbers) → length (cell_shape cell) ≡ 1 + width cell
length-cell cell = let tail = length-replicate (width cell) cell.high in omega arith

pub length-cells : (n : ℕ) (cell : CellNumbers) → length (cells_shape n cell) ≡ n * (1 + width cell)
unfolding cells_shape
length-cells zero cell = omega arith
length-cells (suc n) cell =
    let ih = length-cells n cell in
    let one = length-cell cell in
    rw (length-append, suc-mul) (omega arith)

pub narrow-width : (cell : CellNumbers) → cell.lo ≤ℤ cell.hi → (cell.hi -ℤ cell.lo) ≤ℤ pos 65535 → width cell ≤ 65535
narrow-width cell h k = omega (arith, ints)

shape-few : (input : Domain) (cell : CellNumbers) → Fits input → width cell ≤ 65535 → length (noise_shape input cell) ≤ 2 ^ 40
shape-few (domain.IntVec len least most) cell fits narrow =
    let cell_few : 1 + width cell ≤ 65536 = omega arith in
    let few : len * (1 + width cell) ≤ 1024 * 65536 = mul-le-mul fits.0.1 cell_few in
    rw (length-cells len cell) (omega arith)
shape-few input cell fits narrow = rw (length-cell cell) (omega arith)

cell-bounds : (cell : CellNumbers) → cell.low < cell.high → cell.high + cell.low ≤ 2 ^ 62 → All IsBound (cell_shape cell)
cell-bounds cell h k = All-cons IsBound (cell.high + cell.low) (replicate (width cell) cell.high) (omega arith, k) (All-replicate IsBound (width cell) cell.high (omega arith, omega arith))

cells-bounds : (n : ℕ) (cell : CellNumbers) → cell.low < cell.high → cell.high + cell.low ≤ 2 ^ 62 → All IsBound (cells_shape n cell)
unfolding cells_shape
cells-bounds zero cell h k = All-nil IsBound
cells-bounds (suc n) cell h k = All-append IsBound (cell_shape cell) (cells_shape n cell) (cell-bounds cell h k) (cells-bounds n cell h k)

shape-bounds : (input : Domain) (cell : CellNumbers) → cell.low < cell.high → cell.high + cell.low ≤ 2 ^ 62 → All IsBound (noise_shape input cell)
shape-bounds (domain.IntVec len least most) cell h k = cells-bounds len cell h k
shape-bounds input cell h k = cell-bounds cell h k

-- the law of geometric noise
pub geometric_law : (input : Domain) (ratio : Fraction) (u : ℕ) (cell : CellNumbers) → Fits input → is_numeric input ≡ true → IsBelowOne ratio.p ratio.q → ArePowers ratio.p ratio.q u (cell.low, cell.high) →
    cell.lo ≤ℤ cell.hi → (cell.hi -ℤ cell.lo) ≤ℤ pos 65535 → IsPrivate (geometric input ratio u cell)
geometric_law input ratio u cell fits numeric below_one powers order narrow = record {
  input_fits = fits;
  input_suits = numeric-suits input numeric;
  below_one = below_one;
  few_draws = shape-few input cell fits (narrow-width cell order narrow);
  bounds = shape-bounds input cell powers.below_one powers.bounded;
  few_pieces = omega arith;
  whole = λ v draws has f. noise-whole input cell v draws numeric has;
  limited = λ d k map_is. capped-le (u * d) k map_is;
  private = λ d k v w answer map_is has_v has_w near. private-at input ratio u cell d k v w answer numeric order powers (capped-same (u * d) k map_is) has_v has_w near;
}
