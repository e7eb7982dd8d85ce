-- The answer of one cell, from a first draw and the run draws that a source gives.
use Rattle.std.proofs.Common.{◌≡◌, ℕ, ◌+◌, ℤ, ◌+ℤ◌, List, ◌∷◌, replicate, Option, Some, None, refl, sym, ap, ◌∙◌}
use Rattle.std.specs.Option.{option_map}
use Rattle.dp_draws.specs.Taking.{Turn, put_first, take_draws}
use Rattle.dp_draws.proofs.Taking.{take_draws-some, take_draws-fails}
use Rattle.dp_domain.specs.Ranges.{clamped}
use Rattle.dp_geometric.specs.OneCell.{CellNumbers, width, cell_shape, leading_run, noise, cell_out}

-- the first draw fails
pub first-fails : {R : Type 0} (out : List ℕ → R) (step : List ℕ → ℕ → Turn) (state next : List ℕ) (cell : CellNumbers) → step state (cell.high + cell.low) ≡ record { draw = None; next = next } →
    (None ≡ option_map out (take_draws step state (cell_shape cell)).draws) × (next ≡ (take_draws step state (cell_shape cell)).last)
first-fails out step state next cell turned =
    let e = take_draws-fails step state (cell.high + cell.low) (replicate (width cell) cell.high) next turned in
    (sym (ap (λ t. option_map out t.draws) e), sym (ap (λ t. t.last) e))

-- after a first draw, the run draws are taken
first-taken : (step : List ℕ → ℕ → Turn) (state next : List ℕ) (cell : CellNumbers) (first runs : ℕ) → runs ≡ width cell → step state (cell.high + cell.low) ≡ record { draw = Some first; next = next } →
    take_draws step state (cell_shape cell) ≡ put_first first (take_draws step next (replicate runs cell.high))
first-taken step state next cell first runs wide turned =
    take_draws-some step state (cell.high + cell.low) (replicate (width cell) cell.high) first next turned ∙ ap (λ n. put_first first (take_draws step next (replicate n cell.high))) (sym wide)

pub first-last : (step : List ℕ → ℕ → Turn) (state next last : List ℕ) (cell : CellNumbers) (first runs : ℕ) → runs ≡ width cell → step state (cell.high + cell.low) ≡ record { draw = Some first; next = next } → last ≡ (take_draws step next (replicate runs cell.high)).last →
    last ≡ (take_draws step state (cell_shape cell)).last
first-last step state next last cell first runs wide turned left = left ∙ sym (ap (λ t. t.last) (first-taken step state next cell first runs wide turned))

run-none : {R : Type 0} (out : List ℕ → R) (low first : ℕ) (rest : Option (List ℕ)) → None ≡ option_map (leading_run low) rest → None ≡ option_map out (option_map (λ draws. first ∷ draws) rest)
run-none out low first None failed = refl
run-none out low first (Some draws) failed = absurd (cc)

-- a run draw fails
pub run-fails : {R : Type 0} (out : List ℕ → R) (step : List ℕ → ℕ → Turn) (state next : List ℕ) (cell : CellNumbers) (first runs : ℕ) → runs ≡ width cell → step state (cell.high + cell.low) ≡ record { draw = Some first; next = next } → None ≡ option_map (leading_run cell.low) (take_draws step next (replicate runs cell.high)).draws →
    None ≡ option_map out (take_draws step state (cell_shape cell)).draws
run-fails out step state next cell first runs wide turned failed =
    run-none out cell.low first (take_draws step next (replicate runs cell.high)).draws failed ∙ sym (ap (λ t. option_map out t.draws) (first-taken step state next cell first runs wide turned))

run-some : (cell : CellNumbers) (v answer : ℤ) (first run : ℕ) (rest : Option (List ℕ)) → Some run ≡ option_map (leading_run cell.low) rest → answer ≡ clamped cell.lo cell.hi (clamped cell.lo cell.hi v +ℤ noise cell first run) → Some answer ≡ option_map (cell_out cell v) (option_map (λ draws. first ∷ draws) rest)
unfolding cell_out
run-some cell v answer first run None counted given = absurd (cc)
run-some cell v answer first run (Some draws) counted given =
    let same : run ≡ leading_run cell.low draws = cc in
    ap Some (given ∙ ap (λ r. clamped cell.lo cell.hi (clamped cell.lo cell.hi v +ℤ noise cell first r)) same)

-- all draws are taken
pub run-answers : (step : List ℕ → ℕ → Turn) (state next : List ℕ) (cell : CellNumbers) (v answer : ℤ) (first runs run : ℕ) → runs ≡ width cell → step state (cell.high + cell.low) ≡ record { draw = Some first; next = next } → Some run ≡ option_map (leading_run cell.low) (take_draws step next (replicate runs cell.high)).draws →
    answer ≡ clamped cell.lo cell.hi (clamped cell.lo cell.hi v +ℤ noise cell first run) → Some answer ≡ option_map (cell_out cell v) (take_draws step state (cell_shape cell)).draws
run-answers step state next cell v answer first runs run wide turned counted given =
    run-some cell v answer first run (take_draws step next (replicate runs cell.high)).draws counted given ∙ sym (ap (λ t. option_map (cell_out cell v) t.draws) (first-taken step state next cell first runs wide turned))
