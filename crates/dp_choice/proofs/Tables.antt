-- The table of the weights.
use Rattle.std.proofs.Common.{◌≡◌, ℕ, zero, suc, ◌+◌, ◌*◌, ◌/◌, ◌≤◌, ◌<◌, Bool, true, false, List, [], ◌∷◌, ◌++◌, length, get_or, refl, sym, ◌∙◌, ap, subst, arith, eqb, ltb, leb, cond, Option, Some, None, ℤ, pos, ◌-ℤ◌, nat_abs, w64, to_z, of_z, take, length-append}
use Rattle.std.specs.Prelude.{slice_index}
use Rattle.dp_domain.specs.Ranges.{clamped}
use Rattle.std.specs.List.{sum}
use Rattle.std.proofs.lemmas.Int.{to_z-of_z}
use Rattle.std.proofs.lemmas.List.Sums.{sum_by_more, sum_by-take-le}
use mir.Val.{SFits}
use Rattle.std.proofs.lemmas.Bool.Decides.{nat_tests}
use Rattle.std.proofs.Math.ListN.{get_or-append}
use Rattle.std.proofs.Math.Seq.{get_or-append_seam}
use Rattle.std.proofs.Math.Nat.{le-div_iff_mul-le}
use Rattle.dp_choice.specs.Weights.{ChoiceNumbers, weight, score, weights, weight_table}
use Rattle.dp_choice.specs.Shares.{last_below}
use Rattle.dp_choice.specs.WeightProof.{length-weights}

pub table-start : (first low high : ℕ) → weight_table first low high 0 ≡ first ∷ []
unfolding weight_table
table-start first low high = refl

pub table-next : (first low high s : ℕ) → weight_table first low high (suc s) ≡ weight_table first low high s ++ weight first low high (suc s) ∷ []
unfolding weight_table
table-next first low high s = refl

pub weight-start : (first low high : ℕ) → weight first low high 0 ≡ first
unfolding weight
weight-start first low high = refl

pub weight-more : (first low high s : ℕ) → weight first low high (suc s) ≡ weight first low high s * high / low
unfolding weight
weight-more first low high s = refl

pub table-length : (first low high s : ℕ) → length (weight_table first low high s) ≡ suc s
unfolding weight_table
table-length first low high zero = refl
table-length first low high (suc s) =
    let ih = table-length first low high s in
    length-append (weight_table first low high s) (weight first low high (suc s) ∷ []) ∙ omega arith

at-by : (same : Bool) (first low high s k : ℕ) → eqb k (suc s) ≡ same → k ≤ suc s → (k ≤ s → get_or (weight_table first low high s) k 0 ≡ weight first low high k) →
    get_or (weight_table first low high (suc s)) k 0 ≡ weight first low high k
unfolding weight_table
at-by true first low high s k e h rest =
    let here : k ≡ suc s = grind (arith, nat_tests) in
    let long : length (weight_table first low high s) ≡ k = table-length first low high s ∙ sym here in
    subst (λ (i : ℕ). get_or (weight_table first low high s ++ weight first low high (suc s) ∷ []) i 0 ≡ weight first low high k) long
    (get_or-append_seam (weight_table first low high s) (weight first low high (suc s)) [] 0 ∙ ap (weight first low high) (sym here))
at-by false first low high s k e h rest =
    let few : k ≤ s = grind (arith, nat_tests) in
    let long = table-length first low high s in
    get_or-append (weight_table first low high s) (weight first low high (suc s) ∷ []) 0 k (omega arith) ∙ rest few

pub table-at : (first low high s k : ℕ) → k ≤ s → get_or (weight_table first low high s) k 0 ≡ weight first low high k
unfolding weight_table weight
table-at first low high zero zero h = refl
table-at first low high zero (suc k) h = absurd (omega arith)
table-at first low high (suc s) k h = at-by (eqb k (suc s)) first low high s k refl h (table-at first low high s k)

-- the last entry of the table
pub entry-weight : (table : List ℕ) (first low high s : ℕ) → table ≡ weight_table first low high s → slice_index table s ≡ weight first low high s
entry-weight table first low high s is = ap (λ (t : List ℕ). slice_index t s) is ∙ table-at first low high s s (omega arith)

-- a number at most a limit, or none
pub past-limit : (t : Bool) (n limit : ℕ) → leb n limit ≡ t → None ≡ cond {A = Option ℕ} t (Some n) None → limit < n
past-limit true n limit e h = absurd (cc)
past-limit false n limit e h = grind (arith, nat_tests)

pub within-limit : (t : Bool) (n limit x : ℕ) → leb n limit ≡ t → Some x ≡ cond {A = Option ℕ} t (Some n) None → (x ≡ n) × (n ≤ limit)
within-limit true n limit x e h = (cc, grind (arith, nat_tests))
within-limit false n limit x e h = absurd (cc)

-- a score from words of 64 bits
pub scored : (c : ChoiceNumbers) (cell near : ℤ) (r : ℕ) → SFits w64 cell → SFits w64 near → r ≡ nat_abs (to_z w64 (of_z w64 near) -ℤ c.floor) → near ≡ clamped c.floor c.top (to_z w64 (of_z w64 cell)) → r ≡ score c cell
scored c cell near r fits_cell fits_near given e =
    given ∙ ap (λ z. nat_abs (z -ℤ c.floor)) (to_z-of_z w64 near fits_near ∙ e ∙ ap (λ z. clamped c.floor c.top z) (to_z-of_z w64 cell fits_cell))

-- the weights of a vector, cell by cell
weights-at : (first : ℕ) (c : ChoiceNumbers) (cells : List ℤ) (i : ℕ) → i < length cells → get_or (weights first c cells) i 0 ≡ weight first c.low c.high (score c (get_or cells i (pos 0)))
unfolding weights
weights-at first c [] i h = absurd (omega arith)
weights-at first c (z ∷ cells) zero h = refl
weights-at first c (z ∷ cells) (suc i) h = weights-at first c cells i (omega arith)

pub sum-more : (first : ℕ) (c : ChoiceNumbers) (cells : List ℤ) (i : ℕ) → i < length cells →
    sum (take (i + 1) (weights first c cells)) ≡ sum (take i (weights first c cells)) + weight first c.low c.high (score c (get_or cells i (pos 0)))
sum-more first c cells i h =
    let long = length-weights first c cells in
    sum_by_more (λ n. n) (weights first c cells) i 0 (omega arith) ∙ ap (λ w. sum (take i (weights first c cells)) + w) (weights-at first c cells i h)

pub sum-part : (first : ℕ) (c : ChoiceNumbers) (cells : List ℤ) (i : ℕ) → sum (take i (weights first c cells)) ≤ sum (weights first c cells)
sum-part first c cells i = sum_by-take-le (λ n. n) (weights first c cells) i

pub last-next : (n : ℕ) (test : ℕ → Bool) → last_below (suc n) test ≡ cond (test n) n (last_below n test)
unfolding last_below
last-next n test = refl

-- a share is at most a draw exactly where the exact share lies below the next draw
pub share-test : (t s : Bool) (exact total draw : ℕ) → 1 ≤ total → ltb exact ((draw + 1) * total) ≡ t → leb (exact / total) draw ≡ s → t ≡ s
share-test true true exact total draw h e f = refl
share-test false false exact total draw h e f = refl
share-test true false exact total draw h e f =
    let under : exact < (draw + 1) * total = grind (arith, nat_tests) in
    let over : draw + 1 ≤ exact / total = grind (arith, nat_tests) in
    let most = (le-div_iff_mul-le {k = total} {x = draw + 1} {y = exact} h).0 over in
    absurd (omega (arith, under, most))
share-test false true exact total draw h e f =
    let over : (draw + 1) * total ≤ exact = grind (arith, nat_tests) in
    let under : exact / total ≤ draw = grind (arith, nat_tests) in
    let most = (le-div_iff_mul-le {k = total} {x = draw + 1} {y = exact} h).1 over in
    absurd (omega (arith, under, most))
