-- Records that are cut or padded to a number of cells.
use Rattle.std.proofs.Common.{◌≡◌, ℕ, zero, suc, ◌+◌, ◌≤◌, List, [], ◌∷◌, ◌++◌, take, get_or, length, refl, sym, ◌∙◌, ap, arith, add-one}
use Rattle.std.specs.Prelude.{replicate, unwrap_or}
use Rattle.csv.specs.Records.{field_at}
use Rattle.dp_records.specs.Records.{cut_or_pad}

-- the first n cells, with empty ones behind the last
abbrev first_cells : ℕ → List (List ℕ) → List (List ℕ)
first_cells zero cells = []
first_cells (suc n) [] = [] ∷ first_cells n []
first_cells (suc n) (x ∷ xs) = x ∷ first_cells n xs

padded-first : (n m : ℕ) (cells : List (List ℕ)) → n ≤ m → take n (cells ++ replicate m []) ≡ first_cells n cells
padded-first zero m cells h = refl
padded-first (suc n) zero cells h = absurd (omega arith)
padded-first (suc n) (suc m) [] h = ap (λ (l : List (List ℕ)). [] ∷ l) (padded-first n m [] (omega arith))
padded-first (suc n) (suc m) (x ∷ xs) h = ap (λ (l : List (List ℕ)). x ∷ l) (padded-first n (suc m) xs (omega arith))

first-more : (n : ℕ) (cells : List (List ℕ)) → first_cells (suc n) cells ≡ first_cells n cells ++ get_or cells n [] ∷ []
first-more zero [] = refl
first-more zero (x ∷ xs) = refl
first-more (suc n) [] = ap (λ (l : List (List ℕ)). [] ∷ l) (first-more n [])
first-more (suc n) (x ∷ xs) = ap (λ (l : List (List ℕ)). x ∷ l) (first-more n xs)

cut-first : (n : ℕ) (cells : List (List ℕ)) → cut_or_pad n cells ≡ first_cells n cells
cut-first n cells = padded-first n n cells (omega arith)

-- one cell more
pub cut_or_pad-more : (n : ℕ) (cells : List (List ℕ)) → cut_or_pad (n + 1) cells ≡ cut_or_pad n cells ++ get_or cells n [] ∷ []
cut_or_pad-more n cells =
    let more : cut_or_pad (suc n) cells ≡ cut_or_pad n cells ++ get_or cells n [] ∷ [] =
    cut-first (suc n) cells ∙ first-more n cells ∙ ap (λ (l : List (List ℕ)). l ++ get_or cells n [] ∷ []) (sym (cut-first n cells)) in
    rw (add-one n) more

length-first : (n : ℕ) (cells : List (List ℕ)) → length (first_cells n cells) ≡ n
length-first zero cells = refl
length-first (suc n) [] = ap suc (length-first n [])
length-first (suc n) (x ∷ xs) = ap suc (length-first n xs)

pub length-cut_or_pad : (n : ℕ) (cells : List (List ℕ)) → length (cut_or_pad n cells) ≡ n
length-cut_or_pad n cells = ap length (cut-first n cells) ∙ length-first n cells

-- the cell at a place, and past the end the empty text
pub cell-or : (cells : List (List ℕ)) (k : ℕ) → unwrap_or (field_at cells k) [] ≡ get_or cells k []
unfolding field_at
cell-or [] k = refl
cell-or (x ∷ xs) zero = refl
cell-or (x ∷ xs) (suc k) = cell-or xs k
