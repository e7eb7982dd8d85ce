-- The steps of a pass over selected records.
use Rattle.std.proofs.Common.{◌≡◌, ℕ, ◌+◌, ◌<◌, ◌≤◌, true, false, List, [], ◌∷◌, ◌++◌, length, take, Option, Some, None}
use Rattle.std.proofs.Common.{refl, sym, ap, ◌∙◌, arith}
use Rattle.std.specs.Prelude.{slice_index_or, is_some}
use Rattle.std.proofs.lemmas.List.{take_more, take_all, map-append, length-map}
use Rattle.dp_domain.specs.declared.values.Value.{Value}
use Rattle.dp_domain.specs.declared.values.Value.TheVariants as value
use Rattle.dp_rowwise.specs.Truncate.{record_at}
use Rattle.dp_chain.specs.declared.any_transformation.AnyTransformation.{AnyTransformation}
use Rattle.dp_store.specs.declared.element.Element.{Element}
use Rattle.dp_store.specs.declared.element.Element.TheVariants as element
use Rattle.dp_store.specs.Elements.{element_value, HasElement}
use Rattle.dp_store.specs.Rowwise.{AllRowwise, list_len, joined}
use Rattle.dp_store.specs.Selections.{selected}
use Rattle.dp_store.proofs.Passes.{given_of, line-joins, line-fewer, joined-none, joined-len}

selected-more : (rows : List (List (List ℕ))) (base : List ℕ) (k number : ℕ) → k < length base → number ≡ slice_index_or base k 0 →
    selected rows (take (k + 1) base) ≡ selected rows (take k base) ++ record_at rows number ∷ []
selected-more rows base k number h is =
    ap (selected rows) (take_more base k 0 h) ∙ map-append (record_at rows) (take k base) (slice_index_or base k 0 ∷ [])
    ∙ ap (λ n. selected rows (take k base) ++ record_at rows n ∷ []) (sym is)

element-len : (rows : List (List (List ℕ))) (one : Element) → list_len (element_value rows one) ≡ 1
element-len rows (element.Record number) = refl
element-len rows (element.Text text) = refl
element-len rows (element.OptInt x) = refl
element-len rows (element.Int x) = refl
element-len rows (element.Cat x) = refl

-- for transformations that each give at most one element for each element
module _ (rows : List (List (List ℕ))) (stages : List AnyTransformation) (all : AllRowwise stages) where
  -- what they give of the records before a place, and of one record
  abbrev pub given_before : List ℕ → ℕ → Value
  given_before base k = given_of stages (value.Rows (selected rows (take k base)))

  abbrev pub given_one : ℕ → Value
  given_one number = given_of stages (value.Rows (record_at rows number ∷ []))

  -- of one record more
  given-more : (base : List ℕ) (k number : ℕ) → k < length base → number ≡ slice_index_or base k 0 →
      given_before base (k + 1) ≡ joined (given_before base k) (given_one number)
  given-more base k number h is =
      ap (λ xs. given_of stages (value.Rows xs)) (selected-more rows base k number h is)
      ∙ (line-joins stages (value.Rows (selected rows (take k base))) (value.Rows (record_at rows number ∷ [])) all refl).0

  -- of one record more that gives an element, and of one that gives none
  pub given-element : (base : List ℕ) (k number : ℕ) (one : Element) (v : Value) → k < length base → number ≡ slice_index_or base k 0 →
      HasElement rows (Some one) (given_one number) → v ≡ given_before base k →
      joined v (element_value rows one) ≡ given_before base (k + 1)
  given-element base k number one v h is has so_far =
      sym (given-more base k number h is ∙ ap (λ w. joined (given_before base k) w) has
      ∙ ap (λ w. joined w (element_value rows one)) (sym so_far))

  pub given-none : (base : List ℕ) (k number : ℕ) (v : Value) → k < length base → number ≡ slice_index_or base k 0 →
      HasElement rows None (given_one number) → v ≡ given_before base k → v ≡ given_before base (k + 1)
  given-none base k number v h is has so_far =
      so_far ∙ sym (given-more base k number h is ∙ joined-none (given_before base k) (given_one number) has)

  -- of all records
  pub given-all : (base : List ℕ) (k : ℕ) → length base ≤ k → given_before base k ≡ given_of stages (value.Rows (selected rows base))
  given-all base k h = ap (λ xs. given_of stages (value.Rows (selected rows xs))) (take_all k base h)

  len-more : (base : List ℕ) (k number : ℕ) → k < length base → number ≡ slice_index_or base k 0 →
      list_len (given_before base (k + 1)) ≡ list_len (given_before base k) + list_len (given_one number)
  len-more base k number h is =
      let so_far = value.Rows (selected rows (take k base)) in
      let next = value.Rows (record_at rows number ∷ []) in
      ap list_len (given-more base k number h is)
      ∙ joined-len (given_before base k) (given_one number) (line-joins stages so_far next all refl).1

  -- a count of one element more, and of none more
  pub counts-element : (base : List ℕ) (k number count : ℕ) (one : Option Element) → k < length base → number ≡ slice_index_or base k 0 →
      HasElement rows one (given_one number) → is_some one ≡ true → count ≡ list_len (given_before base k) →
      count + 1 ≡ list_len (given_before base (k + 1))
  counts-element base k number count None h is has there so_far = absurd (cc)
  counts-element base k number count (Some one) h is has there so_far =
      let more = len-more base k number h is in
      let here = ap list_len has in
      let single = element-len rows one in
      omega arith

  pub counts-none : (base : List ℕ) (k number count : ℕ) (one : Option Element) → k < length base → number ≡ slice_index_or base k 0 →
      HasElement rows one (given_one number) → is_some one ≡ false → count ≡ list_len (given_before base k) →
      count ≡ list_len (given_before base (k + 1))
  counts-none base k number count (Some one) h is has there so_far = absurd (cc)
  counts-none base k number count None h is has there so_far =
      let more = len-more base k number h is in
      omega (arith, has)

  -- there are no more elements than records, and of no records none
  pub given-few : (base : List ℕ) → list_len (given_of stages (value.Rows (selected rows base))) ≤ length base
  given-few base =
      let few = line-fewer stages (value.Rows (selected rows base)) all in
      let size = length-map base (record_at rows) in
      omega arith

  pub given-nothing : list_len (given_of stages (value.Rows [])) ≡ 0
  given-nothing = let few = line-fewer stages (value.Rows []) all in omega arith
