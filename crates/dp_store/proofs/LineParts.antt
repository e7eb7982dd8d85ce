-- The first transformations of a line, and those behind them.
use Rattle.std.proofs.Common.{◌≡◌, ℕ, pos, ◌+◌, ◌-◌, ◌<◌, ◌≤◌, Bool, true, false, List, [], ◌∷◌, ◌++◌, map, length, take, drop, refl, sym, ap, subst, ◌∙◌, arith}
use Rattle.std.specs.Prelude.{slice_index_or}
use Rattle.std.proofs.lemmas.List.{take_more, take_all, take-append-drop, drop-drop, drop_all, length-drop}
use Rattle.dp_domain.specs.Domains.{Has}
use Rattle.dp_domain.specs.declared.values.Value.{Value}
use Rattle.dp_domain.specs.declared.values.Value.TheVariants as value
use Rattle.dp_chain.specs.Lines.{line_value, Runs}
use Rattle.dp_chain.specs.declared.any_transformation.AnyTransformation.{AnyTransformation}
use Rattle.dp_chain.specs.declared.any_transformation.AnyTransformation.TheVariants as any
use Rattle.dp_chain.specs.contracts.any_transformation.AnyTransformationTransformation.TheImpl.{ghosts as stage_ghosts}
use Rattle.dp_chain.proofs.LineSteps.{first-runs}
use Rattle.dp_store.specs.Rowwise.{AllRowwise, list_len}
use Rattle.dp_store.proofs.RowwiseLaws.{same_kind}
use Rattle.dp_store.proofs.Passes.{given, given_of, given_of-nil, given_of-cons, given_of-append, line-joins}

-- the first one alone
pub first-given : (stages : List AnyTransformation) (stage : AnyTransformation) (v : Value) → 1 ≤ length stages →
    stage ≡ slice_index_or stages 0 stage →
    given_of (take 1 stages) v ≡ given stage v
first-given [] stage v h is = absurd (omega arith)
first-given (x ∷ xs) stage v h is = given_of-cons x [] v ∙ given_of-nil (given x v) ∙ ap (λ (s : AnyTransformation). given s v) (sym is)

pub first-has : (stages : List AnyTransformation) (stage : AnyTransformation) (v : Value) → 1 ≤ length stages →
    stage ≡ slice_index_or stages 0 stage →
    Runs (map stage_ghosts.mapping stages) v → Has (stage_ghosts.mapping stage).input_domain v
first-has stages stage v h is runs = (first-runs stage_ghosts.mapping stages stage v h is runs).0

-- those behind the first ones
pub rest-given : (stages : List AnyTransformation) (n : ℕ) (v : Value) →
    given_of stages v ≡ given_of (drop n stages) (given_of (take n stages) v)
rest-given stages n v =
    ap (λ (ss : List AnyTransformation). given_of ss v) (sym (take-append-drop n stages))
    ∙ given_of-append (take n stages) (drop n stages) v

runs-behind : (front back : List AnyTransformation) (v : Value) → Runs (map stage_ghosts.mapping (front ++ back)) v →
    Runs (map stage_ghosts.mapping back) (given_of front v)
unfolding Runs line_value
runs-behind [] back v runs = runs
runs-behind (stage ∷ front) back v runs = runs-behind front back (given stage v) runs.1

pub rest-runs : (stages : List AnyTransformation) (n : ℕ) (v : Value) → Runs (map stage_ghosts.mapping stages) v →
    Runs (map stage_ghosts.mapping (drop n stages)) (given_of (take n stages) v)
rest-runs stages n v runs =
    runs-behind (take n stages) (drop n stages) v
    (subst (λ (ss : List AnyTransformation). Runs (map stage_ghosts.mapping ss) v) (sym (take-append-drop n stages)) runs)

-- the transformation counts
abbrev pub is_count : AnyTransformation → Bool
is_count (any.Count part) = true
is_count stage = false

count-given : (stage : AnyTransformation) (v : Value) → is_count stage ≡ true → same_kind v v ≡ true →
    given stage v ≡ value.Int (pos (list_len v))
count-given (any.Count part) (value.Rows xs) h list = refl
count-given (any.Count part) (value.Texts xs) h list = refl
count-given (any.Count part) (value.OptInts xs) h list = refl
count-given (any.Count part) (value.Ints xs) h list = refl
count-given (any.Count part) (value.Cats xs) h list = refl
count-given (any.Count part) v h list = absurd (cc)
count-given stage v h list = absurd (cc)

-- a count behind transformations that give at most one element for each record
pub counted-given : (stages : List AnyTransformation) (k : ℕ) (stage : AnyTransformation) (rows : List (List (List ℕ))) →
    k < length stages →
    stage ≡ slice_index_or stages k stage → is_count stage ≡ true → AllRowwise (take k stages) →
    given_of (take (k + 1) stages) (value.Rows rows) ≡ value.Int (pos (list_len (given_of (take k stages) (value.Rows rows))))
counted-given stages k stage rows h is count all =
    let v = value.Rows rows in
    let behind = given_of (take k stages) v in
    ap (λ (ss : List AnyTransformation). given_of ss v) (take_more stages k stage h)
    ∙ given_of-append (take k stages) (slice_index_or stages k stage ∷ []) v
    ∙ ap (λ (s : AnyTransformation). given_of (s ∷ []) behind) (sym is)
    ∙ given_of-cons stage [] behind ∙ given_of-nil (given stage behind)
    ∙ count-given stage behind count (line-joins (take k stages) v v all refl).1

-- what is left from a place on
tail-is : (stages : List AnyTransformation) (place : ℕ) → take (length stages - place) (drop place stages) ≡ drop place stages
tail-is stages place =
    let size = length-drop place stages in
    take_all (length stages - place) (drop place stages) (omega arith)

pub tail-len : (stages : List AnyTransformation) (place used : ℕ) → place ≤ length stages →
    used ≤ length (take (length stages - place) (drop place stages)) → place + used ≤ length stages
tail-len stages place used within h =
    let size = length-drop place stages in
    let same = ap length (tail-is stages place) in
    omega arith

-- the next ones of these are done
pub next-runs : (stages : List AnyTransformation) (place used : ℕ) (at next : Value) →
    Runs (map stage_ghosts.mapping (drop place stages)) at →
    next ≡ given_of (take used (take (length stages - place) (drop place stages))) at →
    Runs (map stage_ghosts.mapping (drop (place + used) stages)) next
next-runs stages place used at next runs is =
    let back = subst (λ (ss : List AnyTransformation). Runs (map stage_ghosts.mapping ss) (given_of (take used (drop place stages)) at))
    (drop-drop used place stages) (rest-runs (drop place stages) used at runs) in
    let next_is : next ≡ given_of (take used (drop place stages)) at =
    is ∙ ap (λ (ss : List AnyTransformation). given_of (take used ss) at) (tail-is stages place) in
    subst (λ (v : Value). Runs (map stage_ghosts.mapping (drop (place + used) stages)) v) (sym next_is) back

pub next-given : (stages : List AnyTransformation) (place used : ℕ) (v at next : Value) →
    given_of stages v ≡ given_of (drop place stages) at →
    next ≡ given_of (take used (take (length stages - place) (drop place stages))) at →
    given_of stages v ≡ given_of (drop (place + used) stages) next
next-given stages place used v at next forward is =
    forward ∙ rest-given (drop place stages) used at
    ∙ ap (λ (ss : List AnyTransformation). given_of ss (given_of (take used (drop place stages)) at)) (drop-drop used place stages)
    ∙ ap (given_of (drop (place + used) stages))
    (sym (is ∙ ap (λ (ss : List AnyTransformation). given_of (take used ss) at) (tail-is stages place)))

-- all are done
pub all-given : (stages : List AnyTransformation) (place : ℕ) (v at : Value) → length stages ≤ place →
    given_of stages v ≡ given_of (drop place stages) at →
    at ≡ given_of stages v
all-given stages place v at h forward =
    sym (forward ∙ ap (λ (ss : List AnyTransformation). given_of ss at) (drop_all place stages h) ∙ given_of-nil at)
