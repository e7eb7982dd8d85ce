-- The lists in which a tree is kept, and the table that they make.
use Rattle.std.proofs.Common.{◌≡◌, ℕ, zero, suc, ◌≤◌, ◌<◌, true, false, Some, inl, inr, List, [], ◌∷◌, length, slice_get, slice_index, refl, ap, subst, arith, ltb}
use Rattle.std.proofs.lemmas.Bool.Decides.{nat_tests, eqb_tells}
use Rattle.dp_num.specs.declared.trail.Link.{Link}
use Rattle.dp_tree.specs.declared.states.NodeState.{NodeState}
use Rattle.dp_tree.specs.declared.faults.FindFault.TheVariants.{Frozen}
use Rattle.dp_tree.specs.Table.{Row, numbers, parents, lasts, place_of}
use Rattle.dp_tree.specs.Lists.{Rise, ParentsInside, frozen_from, rows_from, row_from, link_parents, link_lasts}
use Rattle.dp_tree.proofs.Rows.{place-at, slice_index-map}

-- numbers that rise are at least their places
pub rise-ge : (names : List ℕ) → Rise names → (k : ℕ) → k < length names → k ≤ slice_index names k
rise-ge names r zero h = omega arith
rise-ge names r (suc k) h =
    let ih = rise-ge names r k (omega (arith, h)) in
    let step = r k (suc k) (omega arith) h in
    omega (arith, ih, step)

-- in numbers that rise each stands once
pub rise-place : (names : List ℕ) (k i : ℕ) → Rise names → k < length names → slice_index names k ≡ i → place_of names i ≡ k
rise-place names k i r h e = place-at names k i h e (λ j l same. let less = r j k l h in omega (arith, less, same, e))

pub rise-weakly : (names : List ℕ) → Rise names → (i j : ℕ) → i ≤ j → j < length names → slice_index names i ≤ slice_index names j
rise-weakly names r i j h l = elim (eqb_tells i j) [
  | inl e ↦ rw e.1 (omega arith)
  | inr e ↦ let less = r i j (omega (arith, h, e.1)) l in omega (arith, less)
]

-- the parts of the table are those of the lists
pub rows-numbers : (names : List ℕ) (links : List Link) (states : List NodeState) → length links ≡ length names → length states ≡ length names → numbers (rows_from names links states) ≡ names
rows-numbers [] links states l s = refl
rows-numbers (n ∷ names) [] states l s = absurd (omega (arith, l))
rows-numbers (n ∷ names) (link ∷ links) [] l s = absurd (omega (arith, s))
rows-numbers (n ∷ names) (link ∷ links) (state ∷ states) l s = ap (λ ns. n ∷ ns) (rows-numbers names links states (omega (arith, l)) (omega (arith, s)))

pub rows-parents : (names : List ℕ) (links : List Link) (states : List NodeState) → length links ≡ length names → length states ≡ length names → parents (rows_from names links states) ≡ link_parents links
rows-parents [] [] states l s = refl
rows-parents [] (link ∷ links) states l s = absurd (omega (arith, l))
rows-parents (n ∷ names) [] states l s = absurd (omega (arith, l))
rows-parents (n ∷ names) (link ∷ links) [] l s = absurd (omega (arith, s))
rows-parents (n ∷ names) (link ∷ links) (state ∷ states) l s = ap (λ ns. link.parent ∷ ns) (rows-parents names links states (omega (arith, l)) (omega (arith, s)))

pub rows-lasts : (names : List ℕ) (links : List Link) (states : List NodeState) → length links ≡ length names → length states ≡ length names → lasts (rows_from names links states) ≡ link_lasts links
rows-lasts [] [] states l s = refl
rows-lasts [] (link ∷ links) states l s = absurd (omega (arith, l))
rows-lasts (n ∷ names) [] states l s = absurd (omega (arith, l))
rows-lasts (n ∷ names) (link ∷ links) [] l s = absurd (omega (arith, s))
rows-lasts (n ∷ names) (link ∷ links) (state ∷ states) l s = ap (λ ns. link.last ∷ ns) (rows-lasts names links states (omega (arith, l)) (omega (arith, s)))

pub rows-length : (names : List ℕ) (links : List Link) (states : List NodeState) → length links ≡ length names → length states ≡ length names → length (rows_from names links states) ≡ length names
rows-length [] links states l s = refl
rows-length (n ∷ names) [] states l s = absurd (omega (arith, l))
rows-length (n ∷ names) (link ∷ links) [] l s = absurd (omega (arith, s))
rows-length (n ∷ names) (link ∷ links) (state ∷ states) l s = let ih = rows-length names links states (omega (arith, l)) (omega (arith, s)) in omega (arith, ih)

-- the parts of the row at a place
pub record PartsOf (names : List ℕ) (links : List Link) (states : List NodeState) (k : ℕ) (row : Row) : Type 0 where
  pub link : Link
  pub state : NodeState
  pub name : slice_get names k ≡ Some row.number
  pub at_link : slice_get links k ≡ Some link
  pub at_state : slice_get states k ≡ Some state
  pub is : row ≡ row_from row.number link state

pub row-parts : (names : List ℕ) (links : List Link) (states : List NodeState) (k : ℕ) (row : Row) → slice_get (rows_from names links states) k ≡ Some row → PartsOf names links states k row
row-parts [] links states k row h = absurd cc
row-parts (n ∷ names) [] states k row h = absurd cc
row-parts (n ∷ names) (link ∷ links) [] k row h = absurd cc
row-parts (n ∷ names) (link ∷ links) (state ∷ states) zero row h =
    let same : row_from n link state ≡ row = cc in
    subst (PartsOf (n ∷ names) (link ∷ links) (state ∷ states) zero) same (record {
      link = link;
      state = state;
      name = refl;
      at_link = refl;
      at_state = refl;
      is = refl;
    })
row-parts (n ∷ names) (link ∷ links) (state ∷ states) (suc k) row h =
    let ih = row-parts names links states k row h in
    record {
      link = ih.link;
      state = ih.state;
      name = ih.name;
      at_link = ih.at_link;
      at_state = ih.at_state;
      is = ih.is;
    }

-- a step up that ends at a later query
pub frozen-here : (names : List ℕ) (links : List Link) (i rest more at : ℕ) (link up : Link) → rest ≡ suc more → slice_get links at ≡ Some link → slice_get links link.parent ≡ Some up → i < up.last → frozen_from names links i rest at ≡ Some (Frozen (slice_index names link.parent) up.last)
frozen-here names links i rest more at link up e h k later =
    let p = slice_index-map (λ (l : Link). l.parent) links at link h in
    let l = slice_index-map (λ (l : Link). l.last) links link.parent up k in
    let test : ltb i up.last ≡ true = grind (arith, nat_tests) in
    rw (e, p, l, test) refl

-- a step up that goes on
pub frozen-on : (names : List ℕ) (links : List Link) (i rest more at : ℕ) (link up : Link) → rest ≡ suc more → slice_get links at ≡ Some link → slice_get links link.parent ≡ Some up → up.last ≤ i → frozen_from names links i rest at ≡ frozen_from names links i more link.parent
frozen-on names links i rest more at link up e h k later =
    let p = slice_index-map (λ (l : Link). l.parent) links at link h in
    let l = slice_index-map (λ (l : Link). l.last) links link.parent up k in
    let test : ltb i up.last ≡ false = grind (arith, nat_tests) in
    rw (e, p, l, test) refl

-- the parent of a link has a place
pub parent-inside : (links : List Link) (at : ℕ) (link : Link) → ParentsInside links → at < length links → slice_get links at ≡ Some link → link.parent < length links
parent-inside links at link inside h e =
    let p = slice_index-map (λ (l : Link). l.parent) links at link e in
    let fits = inside at h in
    omega (arith, p, fits)
