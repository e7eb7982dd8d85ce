-- What a pass over records gives: of records one after the other, what it gives of each.
use Rattle.std.proofs.Common.{◌≡◌, ℕ, ◌+◌, ◌<◌, ◌≤◌, true, List, [], ◌∷◌, ◌++◌, map, length, drop, refl, sym, ap, ◌∙◌, arith}
use Rattle.std.specs.Prelude.{slice_index_or}
use Rattle.std.proofs.Common.{append-nil}
use Rattle.std.proofs.lemmas.List.{length-append}
use Rattle.std.proofs.lemmas.List.Elements.{All-head, All-tail, All-drop}
use Rattle.dp_domain.specs.declared.values.Value.{Value}
use Rattle.dp_domain.specs.declared.values.Value.TheVariants as value
use Rattle.dp_rowwise.specs.Parts.{filter_column, filter_text, select_column, category_texts, imputed_number, clamp_lo, clamp_hi, bin_edges}
use Rattle.dp_chain.specs.Lines.{line_value}
use Rattle.dp_chain.specs.declared.any_transformation.AnyTransformation.{AnyTransformation}
use Rattle.dp_chain.specs.declared.any_transformation.AnyTransformation.TheVariants as any
use Rattle.dp_chain.specs.contracts.any_transformation.AnyTransformationTransformation.TheImpl.{ghosts as stage_ghosts}
use Rattle.dp_chain.proofs.LineSteps.{value-more}
use Rattle.dp_store.specs.Rowwise.{is_rowwise, IsRowwise, AllRowwise, list_len, joined}
use Rattle.dp_store.proofs.RowwiseLaws.{same_kind, Joins, filter-joins, select-joins, cast-joins, categories-joins, impute-joins, drop_none-joins, clamp-joins, bins-joins}
use Rattle.dp_store.proofs.RowwiseLaws.{filter-fewer, select-fewer, cast-fewer, categories-fewer, impute-fewer, drop_none-fewer, clamp-fewer, bins-fewer}

-- what a transformation gives of a value
abbrev pub given : AnyTransformation → Value → Value
given stage v = (stage_ghosts.mapping stage).function v

stage-joins : (stage : AnyTransformation) (v w : Value) → is_rowwise stage ≡ true → same_kind v w ≡ true → Joins (given stage) v w
stage-joins (any.Filter part) v w h same = filter-joins (filter_column part) (filter_text part) v w same
stage-joins (any.Select part) v w h same = select-joins (select_column part) v w same
stage-joins (any.Cast part) v w h same = cast-joins v w same
stage-joins (any.Categories part) v w h same = categories-joins (category_texts part) v w same
stage-joins (any.Impute part) v w h same = impute-joins (imputed_number part) v w same
stage-joins (any.DropNone part) v w h same = drop_none-joins v w same
stage-joins (any.Clamp part) v w h same = clamp-joins (clamp_lo part) (clamp_hi part) v w same
stage-joins (any.Bins part) v w h same = bins-joins (bin_edges part) v w same
stage-joins _ v w h same = absurd (cc)

stage-fewer : (stage : AnyTransformation) (v : Value) → is_rowwise stage ≡ true → list_len (given stage v) ≤ list_len v
stage-fewer (any.Filter part) v h = filter-fewer (filter_column part) (filter_text part) v
stage-fewer (any.Select part) v h = select-fewer (select_column part) v
stage-fewer (any.Cast part) v h = cast-fewer v
stage-fewer (any.Categories part) v h = categories-fewer (category_texts part) v
stage-fewer (any.Impute part) v h = impute-fewer (imputed_number part) v
stage-fewer (any.DropNone part) v h = drop_none-fewer v
stage-fewer (any.Clamp part) v h = clamp-fewer (clamp_lo part) (clamp_hi part) v
stage-fewer (any.Bins part) v h = bins-fewer (bin_edges part) v
stage-fewer _ v h = absurd (cc)

-- what transformations give, one after the other
abbrev pub given_of : List AnyTransformation → Value → Value
given_of stages v = line_value (map stage_ghosts.mapping stages) v

pub given_of-nil : (v : Value) → given_of [] v ≡ v
unfolding line_value
given_of-nil v = refl

pub given_of-cons : (stage : AnyTransformation) (stages : List AnyTransformation) (v : Value) →
    given_of (stage ∷ stages) v ≡ given_of stages (given stage v)
unfolding line_value
given_of-cons stage stages v = refl

pub given_of-append : (front back : List AnyTransformation) (v : Value) → given_of (front ++ back) v ≡ given_of back (given_of front v)
given_of-append [] back v = ap (given_of back) (sym (given_of-nil v))
given_of-append (stage ∷ front) back v =
    given_of-cons stage (front ++ back) v ∙ given_of-append front back (given stage v)
    ∙ ap (given_of back) (sym (given_of-cons stage front v))

pub line-joins : (stages : List AnyTransformation) (v w : Value) → AllRowwise stages → same_kind v w ≡ true → Joins (given_of stages) v w
line-joins [] v w all same = (
  given_of-nil (joined v w) ∙ sym (ap (λ x. joined x (given_of [] w)) (given_of-nil v) ∙ ap (λ x. joined v x) (given_of-nil w)),
  ap (λ x. same_kind x (given_of [] w)) (given_of-nil v) ∙ ap (λ x. same_kind v x) (given_of-nil w) ∙ same,
)
line-joins (stage ∷ stages) v w all same =
    let here = stage-joins stage v w (All-head IsRowwise stage stages all) same in
    let there = line-joins stages (given stage v) (given stage w) (All-tail IsRowwise stage stages all) here.1 in (
      given_of-cons stage stages (joined v w) ∙ ap (given_of stages) here.0 ∙ there.0
          ∙ sym (ap (λ x. joined x (given_of (stage ∷ stages) w)) (given_of-cons stage stages v)
          ∙ ap (λ x. joined (given_of stages (given stage v)) x) (given_of-cons stage stages w)),
      ap (λ x. same_kind x (given_of (stage ∷ stages) w)) (given_of-cons stage stages v)
          ∙ ap (λ x. same_kind (given_of stages (given stage v)) x) (given_of-cons stage stages w) ∙ there.1,
    )

pub line-fewer : (stages : List AnyTransformation) (v : Value) → AllRowwise stages → list_len (given_of stages v) ≤ list_len v
line-fewer [] v all = let same = ap list_len (given_of-nil v) in omega arith
line-fewer (stage ∷ stages) v all =
    let here = stage-fewer stage v (All-head IsRowwise stage stages all) in
    let there = line-fewer stages (given stage v) (All-tail IsRowwise stage stages all) in
    let same = ap list_len (given_of-cons stage stages v) in
    omega arith

length-none : {X : Type 0} (xs : List X) → length xs ≡ 0 → xs ≡ []
length-none [] h = refl
length-none (x ∷ xs) h = absurd (omega arith)

append-none : {X : Type 0} (xs ys : List X) → length ys ≡ 0 → xs ++ ys ≡ xs
append-none xs ys h = ap (λ zs. xs ++ zs) (length-none ys h) ∙ append-nil xs

-- a list and one without elements are the list
pub joined-none : (v w : Value) → list_len w ≡ 0 → joined v w ≡ v
joined-none (value.Rows xs) (value.Rows ys) h = ap value.Rows (append-none xs ys h)
joined-none (value.Texts xs) (value.Texts ys) h = ap value.Texts (append-none xs ys h)
joined-none (value.OptInts xs) (value.OptInts ys) h = ap value.OptInts (append-none xs ys h)
joined-none (value.Ints xs) (value.Ints ys) h = ap value.Ints (append-none xs ys h)
joined-none (value.Cats xs) (value.Cats ys) h = ap value.Cats (append-none xs ys h)
joined-none v w h = refl

pub joined-len : (v w : Value) → same_kind v w ≡ true → list_len (joined v w) ≡ list_len v + list_len w
joined-len (value.Rows xs) (value.Rows ys) h = length-append xs ys
joined-len (value.Texts xs) (value.Texts ys) h = length-append xs ys
joined-len (value.OptInts xs) (value.OptInts ys) h = length-append xs ys
joined-len (value.Ints xs) (value.Ints ys) h = length-append xs ys
joined-len (value.Cats xs) (value.Cats ys) h = length-append xs ys
joined-len v w h = absurd (cc)

-- where a transformation gives no element, those after it give none
pub none-left : (stages : List AnyTransformation) (i : ℕ) (stage : AnyTransformation) (v at : Value) → i < length stages →
    stage ≡ slice_index_or stages i stage →
    AllRowwise stages → given_of stages v ≡ given_of (drop i stages) at → list_len (given stage at) ≡ 0 → list_len (given_of stages v) ≡ 0
none-left stages i stage v at h is all forward none =
    let next = value-more stage_ghosts.mapping stages i stage v at (given stage at) h is forward refl in
    let few = line-fewer (drop (i + 1) stages) (given stage at) (All-drop IsRowwise (i + 1) stages all) in
    let same : list_len (given_of stages v) ≡ list_len (given_of (drop (i + 1) stages) (given stage at)) = ap list_len next in
    omega arith
