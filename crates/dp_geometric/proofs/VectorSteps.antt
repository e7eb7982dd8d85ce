-- The cells of a vector, answered one after the other.
use Rattle.std.proofs.Common.{◌≡◌, ℕ, zero, suc, ◌+◌, ◌≤◌, ◌<◌, ℤ, List, [], ◌∷◌, ◌++◌, length, drop, Option, Some, None, refl, sym, ap, ◌∙◌, arith, add-one, append_assoc, append-nil, subst, get_or, drop-cons, pos, w64, to_z, of_z}
use Rattle.std.specs.Option.{option_map}
use Rattle.std.proofs.lemmas.Int.{to_z-of_z}
use Rattle.std.proofs.lemmas.List.{drop_all}
use Rattle.std.proofs.Math.Seq.{take-append_seam, drop-append_seam}
use mir.Val.{SFits}
use Rattle.dp_count.specs.Slots.{replies}
use Rattle.dp_draws.specs.Taking.{Turn, Taken, take_draws}
use Rattle.dp_draws.proofs.Taking.{take_draws-none, take_draws-append-some, take_draws-append-fails, take_draws-length}
use Rattle.dp_geometric.specs.OneCell.{CellNumbers, cell_shape, cell_out}
use Rattle.dp_geometric.specs.Geometric.{cells_shape, cells_out}

-- the draws of so many cells
abbrev pub cells_taken : (List ℕ → ℕ → Turn) → List ℕ → ℕ → CellNumbers → Taken
cells_taken step state n cell = take_draws step state (cells_shape n cell)

-- what is still to be taken gives what the whole gives
pub record VectorForward (step : List ℕ → ℕ → Turn) (start state : List ℕ) (before now : ℕ) (cell : CellNumbers) (whole rest done : List ℤ) : Type 0 where
  pub answers : option_map (λ draws. done ++ cells_out cell rest draws) (cells_taken step state (length rest) cell).draws ≡ option_map (cells_out cell whole) (cells_taken step start (length whole) cell).draws
  pub last : (cells_taken step state (length rest) cell).last ≡ (cells_taken step start (length whole) cell).last
  pub kept : now ≡ before

cells_out-cut : (cell : CellNumbers) (z : ℤ) (zs : List ℤ) (d e : List ℕ) → length d ≡ length (cell_shape cell) →
    cells_out cell (z ∷ zs) (d ++ e) ≡ cell_out cell z d ∷ cells_out cell zs e
unfolding cells_out replies
cells_out-cut cell z zs d e same = rw (← same, take-append_seam d e, drop-append_seam d e) refl

cells_shape-more : (n : ℕ) (cell : CellNumbers) → cells_shape (suc n) cell ≡ cell_shape cell ++ cells_shape n cell
unfolding cells_shape
cells_shape-more n cell = refl

-- one cell at the end is one cell at the front
pub cells_shape-last : (n : ℕ) (cell : CellNumbers) → cells_shape n cell ++ cell_shape cell ≡ cells_shape (suc n) cell
unfolding cells_shape
cells_shape-last zero cell = sym (append-nil (cell_shape cell))
cells_shape-last (suc n) cell =
    append_assoc (cell_shape cell) (cells_shape n cell) (cell_shape cell) ∙ ap (λ s. cell_shape cell ++ s) (cells_shape-last n cell)

cells_out-none : (cell : CellNumbers) (draws : List ℕ) → cells_out cell [] draws ≡ []
unfolding cells_out replies
cells_out-none cell draws = refl

one-more : (cell : CellNumbers) (z x : ℤ) (zs done : List ℤ) (d : List ℕ) (rest : Option (List ℕ)) → length d ≡ length (cell_shape cell) → x ≡ cell_out cell z d →
    option_map (λ draws. done ++ cells_out cell (z ∷ zs) draws) (option_map (λ more. d ++ more) rest) ≡ option_map (λ draws. (done ++ x ∷ []) ++ cells_out cell zs draws) rest
one-more cell z x zs done d None same is = refl
one-more cell z x zs done d (Some e) same is =
    ap Some (rw (cells_out-cut cell z zs d e same, ← is) (sym (append_assoc done (x ∷ []) (cells_out cell zs e))))

-- the cells' draws where the first cell's are taken, and where they fail
taken-more : (step : List ℕ → ℕ → Turn) (state draws : List ℕ) (n : ℕ) (cell : CellNumbers) → (take_draws step state (cell_shape cell)).draws ≡ Some draws →
    cells_taken step state (suc n) cell ≡ record {
      draws = option_map (λ more. draws ++ more) (cells_taken step (take_draws step state (cell_shape cell)).last n cell).draws;
      last = (cells_taken step (take_draws step state (cell_shape cell)).last n cell).last;
    }
taken-more step state draws n cell taken =
    ap (λ s. take_draws step state s) (cells_shape-more n cell) ∙ take_draws-append-some step state (cell_shape cell) (cells_shape n cell) draws taken

taken-fails : (step : List ℕ → ℕ → Turn) (state : List ℕ) (n : ℕ) (cell : CellNumbers) → (take_draws step state (cell_shape cell)).draws ≡ None →
    cells_taken step state (suc n) cell ≡ record { draws = None; last = (take_draws step state (cell_shape cell)).last }
taken-fails step state n cell failed =
    ap (λ s. take_draws step state s) (cells_shape-more n cell) ∙ take_draws-append-fails step state (cell_shape cell) (cells_shape n cell) failed

more-by : (first : Option (List ℕ)) (step : List ℕ → ℕ → Turn) (start state next : List ℕ) (before now after : ℕ) (cell : CellNumbers) (whole rest done : List ℤ) (z x : ℤ) →
    (take_draws step state (cell_shape cell)).draws ≡ first → VectorForward step start state before now cell whole (z ∷ rest) done →
    Some x ≡ option_map (cell_out cell z) first → next ≡ (take_draws step state (cell_shape cell)).last → after ≡ now →
    VectorForward step start next before after cell whole rest (done ++ x ∷ [])
more-by None step start state next before now after cell whole rest done z x taken f answered left kept = absurd (cc)
more-by (Some d) step start state next before now after cell whole rest done z x taken f answered left kept =
    let is : x ≡ cell_out cell z d = cc in
    let e = taken-more step state d (length rest) cell taken in
    let given_kept = f.kept in
    record {
      answers = rw left (sym (one-more cell z x rest done d _ (take_draws-length step state (cell_shape cell) d taken) is)
          ∙ sym (ap (λ (t : Taken). option_map (λ draws. done ++ cells_out cell (z ∷ rest) draws) t.draws) e) ∙ f.answers);
      last = rw left (sym (ap (λ (t : Taken). t.last) e) ∙ f.last);
      kept = omega arith;
    }

-- one cell more
pub vector-more : (step : List ℕ → ℕ → Turn) (start state next : List ℕ) (before now after : ℕ) (cell : CellNumbers) (whole rest done : List ℤ) (z x : ℤ) → VectorForward step start state before now cell whole (z ∷ rest) done →
    Some x ≡ option_map (cell_out cell z) (take_draws step state (cell_shape cell)).draws → next ≡ (take_draws step state (cell_shape cell)).last → after ≡ now →
    VectorForward step start next before after cell whole rest (done ++ x ∷ [])
vector-more step start state next before now after cell whole rest done z x f answered left kept =
    more-by (take_draws step state (cell_shape cell)).draws step start state next before now after cell whole rest done z x refl f answered left kept

failed-draws : {R : Type 0} (out : List ℕ → R) (draws : Option (List ℕ)) → None ≡ option_map out draws → draws ≡ None
failed-draws out None h = refl
failed-draws out (Some d) h = absurd (cc)

-- a cell whose draws fail
pub vector-fails : (step : List ℕ → ℕ → Turn) (start state next : List ℕ) (before now : ℕ) (cell : CellNumbers) (whole rest done : List ℤ) (z : ℤ) → VectorForward step start state before now cell whole (z ∷ rest) done →
    None ≡ option_map (cell_out cell z) (take_draws step state (cell_shape cell)).draws → next ≡ (take_draws step state (cell_shape cell)).last →
    (None ≡ option_map (cells_out cell whole) (cells_taken step start (length whole) cell).draws) × (next ≡ (cells_taken step start (length whole) cell).last)
vector-fails step start state next before now cell whole rest done z f failed left =
    let e = taken-fails step state (length rest) cell (failed-draws (cell_out cell z) _ failed) in
    (sym (ap (λ (t : Taken). option_map (λ draws. done ++ cells_out cell (z ∷ rest) draws) t.draws) e) ∙ f.answers, left ∙ sym (ap (λ (t : Taken). t.last) e) ∙ f.last)

cells_taken-none : (step : List ℕ → ℕ → Turn) (state : List ℕ) (cell : CellNumbers) → cells_taken step state 0 cell ≡ record { draws = Some []; last = state }
unfolding cells_shape
cells_taken-none step state cell = take_draws-none step state

-- all cells answered
pub vector-ends : (step : List ℕ → ℕ → Turn) (start state : List ℕ) (before now : ℕ) (cell : CellNumbers) (whole done : List ℤ) → VectorForward step start state before now cell whole [] done →
    (Some done ≡ option_map (cells_out cell whole) (cells_taken step start (length whole) cell).draws) × (state ≡ (cells_taken step start (length whole) cell).last)
vector-ends step start state before now cell whole done f =
    let e = cells_taken-none step state cell in
    let all : done ++ cells_out cell [] [] ≡ done = rw (cells_out-none cell []) (append-nil done) in
    (ap Some (sym all) ∙ sym (ap (λ (t : Taken). option_map (λ draws. done ++ cells_out cell [] draws) t.draws) e) ∙ f.answers, sym (ap (λ (t : Taken). t.last) e) ∙ f.last)

-- the same at a place of the numbers, whose number is a word of 64 bits
next-number : (xs : List ℤ) (i : ℕ) → i < length xs → drop i xs ≡ get_or xs i (pos 0) ∷ drop (i + 1) xs
next-number xs i h = rw add-one (drop-cons xs i (pos 0) h)

pub place-more : (step : List ℕ → ℕ → Turn) (start state next : List ℕ) (before now after : ℕ) (cell : CellNumbers) (xs done : List ℤ) (i : ℕ) (x : ℤ) → VectorForward step start state before now cell xs (drop i xs) done →
    i < length xs → SFits w64 (get_or xs i (pos 0)) → Some x ≡ option_map (cell_out cell (to_z w64 (of_z w64 (get_or xs i (pos 0))))) (take_draws step state (cell_shape cell)).draws → next ≡ (take_draws step state (cell_shape cell)).last → after ≡ now →
    VectorForward step start next before after cell xs (drop (i + 1) xs) (done ++ x ∷ [])
place-more step start state next before now after cell xs done i x f h fits answered left kept =
    let z = get_or xs i (pos 0) in
    vector-more step start state next before now after cell xs (drop (i + 1) xs) done z x
    (subst (λ (rest : List ℤ). VectorForward step start state before now cell xs rest done) (next-number xs i h) f)
    (subst (λ (v : ℤ). Some x ≡ option_map (cell_out cell v) (take_draws step state (cell_shape cell)).draws) (to_z-of_z w64 z fits) answered) left kept

pub place-fails : (step : List ℕ → ℕ → Turn) (start state next : List ℕ) (before now : ℕ) (cell : CellNumbers) (xs done : List ℤ) (i : ℕ) → VectorForward step start state before now cell xs (drop i xs) done →
    i < length xs → SFits w64 (get_or xs i (pos 0)) → None ≡ option_map (cell_out cell (to_z w64 (of_z w64 (get_or xs i (pos 0))))) (take_draws step state (cell_shape cell)).draws → next ≡ (take_draws step state (cell_shape cell)).last →
    (None ≡ option_map (cells_out cell xs) (cells_taken step start (length xs) cell).draws) × (next ≡ (cells_taken step start (length xs) cell).last)
place-fails step start state next before now cell xs done i f h fits failed left =
    let z = get_or xs i (pos 0) in
    vector-fails step start state next before now cell xs (drop (i + 1) xs) done z
    (subst (λ (rest : List ℤ). VectorForward step start state before now cell xs rest done) (next-number xs i h) f)
    (subst (λ (v : ℤ). None ≡ option_map (cell_out cell v) (take_draws step state (cell_shape cell)).draws) (to_z-of_z w64 z fits) failed) left

pub places-end : (step : List ℕ → ℕ → Turn) (start state : List ℕ) (before now : ℕ) (cell : CellNumbers) (xs done : List ℤ) (i : ℕ) → VectorForward step start state before now cell xs (drop i xs) done → length xs ≤ i →
    (Some done ≡ option_map (cells_out cell xs) (cells_taken step start (length xs) cell).draws) × (state ≡ (cells_taken step start (length xs) cell).last)
places-end step start state before now cell xs done i f h =
    vector-ends step start state before now cell xs done (subst (λ (rest : List ℤ). VectorForward step start state before now cell xs rest done) (drop_all i xs h) f)
