-- A tree's lists after a query.
use Rattle.std.proofs.Common.{◌≡◌, ◌≢◌, ℕ, zero, suc, ◌≤◌, ◌<◌, ◌^◌, Bool, true, false, cond, Option, Some, None, ◌⊎◌, inl, inr, List, [], ◌∷◌, ◌++◌, map, length, slice_get, slice_index, slice_set, refl, sym, ◌∙◌, ap, subst, arith, eqb, ltb, Result, min, rules}
use Rattle.std.proofs.lemmas.Bool.Decides.{nat_tests, eqb_tells}
use Rattle.std.proofs.lemmas.Option.{slice_get_within, get_or_from_slice_get}
use Rattle.dp_num.specs.declared.trail.Link.{Link}
use Rattle.dp_num.specs.Trail.{TrailValue, with_last, with_link}
use Rattle.dp_num.specs.Reserved.{ReservedValue, with_item}
use Rattle.std.specs.Result.{result_err}
use Rattle.dp_budget.specs.Rules.{refusal}
use Rattle.dp_budget.specs.declared.over.Over.{Over}
use Rattle.dp_domain.specs.Domains.{Fits}
use Rattle.dp_tree.specs.declared.states.NodeState.{NodeState}
use Rattle.dp_tree.specs.Table.{Row, TreeValue, numbers, place_of, row_of, over_in, charged_row, charged_rows, asked, IsNext}
use Rattle.dp_tree.specs.Lists.{Rise, IsTree, HoldTree, WithinLimits, rows_from, row_from, link_parents, depths, live_child, charged_state}
use Rattle.dp_tree.proofs.Rows.{place-found, place-none, row_within, eqb-same, eqb-other}
use Rattle.dp_tree.proofs.Lists.{row-parts}
use Rattle.dp_tree.proofs.Kept.{hold-links, Keeps, keeps-many, keeps-place, placed}

-- an item that keeps what is looked at
pub map-set-same : {X : Type 0} (f : X → ℕ) (xs : List X) (k : ℕ) (x y : X) → slice_get xs k ≡ Some x → f y ≡ f x → map f (slice_set xs k y) ≡ map f xs
map-set-same f [] k x y h e = refl
map-set-same f (z ∷ xs) zero x y h e = let same : z ≡ x = cc in ap (λ n. n ∷ map f xs) (e ∙ ap f (sym same))
map-set-same f (z ∷ xs) (suc k) x y h e = ap (λ ns. f z ∷ ns) (map-set-same f xs k x y h e)

-- an item of a list in which one was put
pub set-get : {X : Type 0} (xs : List X) (k j : ℕ) (x y : X) → slice_get (slice_set xs k y) j ≡ Some x → ((j ≡ k) × (x ≡ y)) ⊎ (slice_get xs j ≡ Some x)
set-get [] k j x y h = absurd cc
set-get (z ∷ xs) zero zero x y h = inl (refl, cc)
set-get (z ∷ xs) zero (suc j) x y h = inr h
set-get (z ∷ xs) (suc k) zero x y h = inr h
set-get (z ∷ xs) (suc k) (suc j) x y h = elim (set-get xs k j x y h) [
  | inl e ↦ inl (ap suc e.0, e.1)
  | inr e ↦ inr e
]

-- rows of other numbers stay
rows-untouched : (names : List ℕ) (links : List Link) (states : List NodeState) (i q cost : ℕ) → ((j : ℕ) → j < length names → slice_index names j ≢ i) → charged_rows i q cost (rows_from names links states) ≡ rows_from names links states
rows-untouched [] links states i q cost other = refl
rows-untouched (n ∷ names) [] states i q cost other = refl
rows-untouched (n ∷ names) (link ∷ links) [] i q cost other = refl
rows-untouched (n ∷ names) (link ∷ links) (state ∷ states) i q cost other =
    rw (eqb-other n i (other 0 (omega arith)))
    (ap (λ rows. row_from n link state ∷ rows) (rows-untouched names links states i q cost (λ j l. other (suc j) (omega arith))))

-- the charged row is that of the charged lists
pub rows-charged : (names : List ℕ) (links : List Link) (states : List NodeState) (k i q cost : ℕ) (link : Link) (state : NodeState) (live : Option ℕ) → k < length names → slice_index names k ≡ i → ((j : ℕ) → j < length names → j ≢ k → slice_index names j ≢ i) → slice_get links k ≡ Some link → slice_get states k ≡ Some state → charged_rows i q cost (rows_from names links states) ≡ rows_from names (slice_set links k (with_last link q live)) (slice_set states k (charged_state cost state))
rows-charged [] links states k i q cost link state live l e other h s = absurd (omega (arith, l))
rows-charged (n ∷ names) [] states k i q cost link state live l e other h s = absurd cc
rows-charged (n ∷ names) (a ∷ links) [] k i q cost link state live l e other h s = absurd cc
rows-charged (n ∷ names) (a ∷ links) (b ∷ states) zero i q cost link state live l e other h s =
    let same-link : a ≡ link = cc in
    let same-state : b ≡ state = cc in
    rw (e, eqb-same i, same-link, same-state)
    (ap (λ rows. charged_row q cost (row_from i link state) ∷ rows) (rows-untouched names links states i q cost (λ j m. other (suc j) (omega (arith, m)) (omega arith))))
rows-charged (n ∷ names) (a ∷ links) (b ∷ states) (suc k) i q cost link state live l e other h s =
    rw (eqb-other n i (other 0 (omega arith) (omega arith)))
    (ap (λ rows. row_from n a b ∷ rows) (rows-charged names links states k i q cost link state live (omega (arith, l)) e (λ j m d. other (suc j) (omega (arith, m)) (λ same. d (omega (arith, same)))) h s))

-- the row of a new node is the last
pub rows-pushed : (names : List ℕ) (links : List Link) (states : List NodeState) (n : ℕ) (link : Link) (state : NodeState) → length links ≡ length names → length states ≡ length names → rows_from (names ++ n ∷ []) (links ++ link ∷ []) (states ++ state ∷ []) ≡ rows_from names links states ++ row_from n link state ∷ []
rows-pushed [] [] [] n link state l s = refl
rows-pushed [] (a ∷ links) states n link state l s = absurd (omega (arith, l))
rows-pushed [] [] (b ∷ states) n link state l s = absurd (omega (arith, s))
rows-pushed (m ∷ names) [] states n link state l s = absurd (omega (arith, l))
rows-pushed (m ∷ names) (a ∷ links) [] n link state l s = absurd (omega (arith, s))
rows-pushed (m ∷ names) (a ∷ links) (b ∷ states) n link state l s =
    ap (λ rows. row_from m a b ∷ rows) (rows-pushed names links states n link state (omega (arith, l)) (omega (arith, s)))

-- each other place has another number
pub rise-other : (names : List ℕ) (k j : ℕ) → Rise names → k < length names → j < length names → j ≢ k → slice_index names j ≢ slice_index names k
rise-other names k j r l m d same = elim (eqb_tells j k) [
  | inl e ↦ d e.1
  | inr e ↦ elim (sides j k d) [
    | inl below ↦ let less = r j k below l in omega (arith, less, same)
    | inr above ↦ let less = r k j above m in omega (arith, less, same)
  ]
]
  where
    sides : (a b : ℕ) → a ≢ b → (a < b) ⊎ (b < a)
    sides a b h = search rules

-- all numbers of the table are below the next
pub names-below : (t : TreeValue) (names : List ℕ) (links : List Link) (states : List NodeState) (q : ℕ) → Keeps t names links states → IsNext t q → (j : ℕ) → j < length names → slice_index names j < q
names-below t names links states q k next j l =
    let many = keeps-many t names links states k in
    let at = row_within t.rows j (omega (arith, l, many)) in
    let parts = row-parts names links states j at.0 (ap (λ rows. slice_get rows j) (sym k.rows) ∙ at.1) in
    let less = (next j at.0 at.1).0 in
    let same : slice_index names j ≡ at.0.number = get_or_from_slice_get names j at.0.number 0 parts.name in
    omega (arith, less, same)

pub lasts-below : (t : TreeValue) (names : List ℕ) (links : List Link) (states : List NodeState) (q : ℕ) → Keeps t names links states → IsNext t q → (j : ℕ) (link : Link) → slice_get links j ≡ Some link → link.last < q
lasts-below t names links states q k next j link e =
    let inside = slice_get_within links j link e in
    let many-links = hold-links names links states k.hold in
    let many = keeps-many t names links states k in
    let at = row_within t.rows j (omega (arith, inside, many, many-links)) in
    let parts = row-parts names links states j at.0 (ap (λ rows. slice_get rows j) (sym k.rows) ∙ at.1) in
    let less = (next j at.0 at.1).1 in
    let found : Some parts.link ≡ Some link = sym parts.at_link ∙ e in
    let same : parts.link.last ≡ link.last = cc in
    let is : at.0.last ≡ parts.link.last = ap (λ (r : Row). r.last) parts.is in
    omega (arith, less, same, is)

-- a number that no node has opens no live child
live-none : (names : List ℕ) (q : ℕ) → ((j : ℕ) → j < length names → slice_index names j < q) → live_child names q ≡ None
live-none names q below =
    let e = place-none names q (λ j l same. let less = below j l in omega (arith, less, same)) in
    let past : ltb (place_of names q) (length names) ≡ false = grind (arith, nat_tests, e) in
    go (eqb q 0) past
  where
    go : (test : Bool) → ltb (place_of names q) (length names) ≡ false → cond {A = Option ℕ} test None (cond {A = Option ℕ} (ltb (place_of names q) (length names)) (Some (place_of names q)) None) ≡ None
    go true past = refl
    go false past = rw past refl

pub limits-set : (states : List NodeState) (k cost : ℕ) (state : NodeState) → slice_get states k ≡ Some state → WithinLimits states → WithinLimits (slice_set states k (charged_state cost state))
limits-set states k cost state s limits j found e = elim (set-get states k j found (charged_state cost state) e) [
  | inl at ↦ subst (λ (x : NodeState). Fits x.domain × (x.distance ≤ 2 ^ 32)) (sym at.1) (limits k state s)
  | inr at ↦ limits j found at
]

-- after an ask
pub hold-asked : (names : List ℕ) (links : List Link) (states : List NodeState) (k q cost : ℕ) (link : Link) (state : NodeState) → HoldTree names links states → slice_get links k ≡ Some link → slice_get states k ≡ Some state → ((j : ℕ) → j < length names → slice_index names j < q) → HoldTree names (slice_set links k (with_last link q None)) (slice_set states k (charged_state cost state))
hold-asked names links states k q cost link state h e s below = record {
  shape = subst (λ ps. IsTree names ps (depths (slice_set states k (charged_state cost state)))) (sym (map-set-same (λ (l : Link). l.parent) links k link (with_last link q None) e refl))
      (subst (IsTree names (link_parents links)) (sym (map-set-same (λ (x : NodeState). x.depth) states k state (charged_state cost state) s refl)) h.shape);
  live = λ j found at. elim (set-get links k j found (with_last link q None) at) [
    | inl here ↦ subst (λ (x : Link). x.live ≡ live_child names x.last) (sym here.1) (sym (live-none names q below))
    | inr there ↦ h.live j found there
  ];
  limits = limits-set states k cost state s h.limits;
}

-- what stands at the place of a node
pub record At (t : TreeValue) (names : List ℕ) (links : List Link) (states : List NodeState) (i place : ℕ) : Type 0 where
  pub is : place_of names i ≡ place
  pub here : place_of (numbers t.rows) i ≡ place
  pub named : slice_index names place ≡ i
  pub within : place < length names
  pub link : Link
  pub at_link : slice_get links place ≡ Some link
  pub state : NodeState
  pub at_state : slice_get states place ≡ Some state
  pub row : Row
  pub found : row_of t i ≡ Some row
  pub depth : row.depth ≡ state.depth
  pub budget : row.budget ≡ state.budget

pub at-place : (t : TreeValue) (names : List ℕ) (links : List Link) (states : List NodeState) (i place : ℕ) → Keeps t names links states → place ≡ place_of (numbers t.rows) i → place < length t.rows → At t names links states i place
at-place t names links states i place k e l =
    let many = keeps-many t names links states k in
    let here = e ∙ keeps-place t names links states i k in
    let within : place < length names = omega (arith, l, many) in
    let at = placed t names links states i place k here within in
    record {
      is = sym here;
      here = sym e;
      named = ap (slice_index names) here ∙ place-found names i (omega (arith, within, here));
      within = within;
      link = at.parts.link;
      at_link = at.parts.at_link;
      state = at.parts.state;
      at_state = at.parts.at_state;
      row = at.row;
      found = at.found;
      depth = ap (λ (r : Row). r.depth) at.parts.is;
      budget = ap (λ (r : Row). r.budget) at.parts.is;
    }

-- what a charge answers is what the table says
pub charge-told : (t : TreeValue) (names : List ℕ) (links : List Link) (states : List NodeState) (i place cost : ℕ) (result : Result (Unit {0}) Over) (at : At t names links states i place) → result_err result ≡ refusal at.state.budget cost → result_err result ≡ over_in t i cost
charge-told t names links states i place cost result at told = told ∙ ap (λ b. refusal b cost) (sym at.budget) ∙ by-row t i at.row at.found
  where
    by-row : (t : TreeValue) (i : ℕ) (row : Row) → row_of t i ≡ Some row → refusal row.budget cost ≡ over_in t i cost
    by-row t i row found = rw found refl

-- the table after a charge of the lists
pub rows-at : (t : TreeValue) (names : List ℕ) (links : List Link) (states : List NodeState) (i place q cost : ℕ) (live : Option ℕ) → Keeps t names links states → (at : At t names links states i place) → charged_rows i q cost t.rows ≡ rows_from names (slice_set links place (with_last at.link q live)) (slice_set states place (charged_state cost at.state))
rows-at t names links states i place q cost live k at =
    ap (charged_rows i q cost) k.rows
    ∙ rows-charged names links states place i q cost at.link at.state live at.within at.named
    (λ j l d same. rise-other names place j k.hold.shape.rising at.within l d (same ∙ sym at.named)) at.at_link at.at_state

-- two values of a tree with equal parts
pub tree-same : (rows more : List Row) (spare room : ℕ) (b o : Bool) → rows ≡ more → spare ≡ room → b ≡ o → ◌≡◌ {A = TreeValue} (record { rows = rows; spare = spare; siblings_open = b }) (record { rows = more; spare = room; siblings_open = o })
tree-same rows more spare room b o e f g = rw (e, f, g) refl

-- the tree after an ask
pub asked-is : (t : TreeValue) (names : List ℕ) (room : ℕ) (trail put : TrailValue) (states new : ReservedValue NodeState) (b : Bool) (i place q cost : ℕ) → Keeps t names trail.links states.items → (at : At t names trail.links states.items i place) → t.spare ≡ min room (min trail.spare states.spare) → t.siblings_open ≡ b → put ≡ with_link trail place (with_last at.link q None) → new ≡ with_item states place (charged_state cost at.state) → ◌≡◌ {A = TreeValue} (record { rows = rows_from names put.links new.items; spare = min room (min put.spare new.spare); siblings_open = b }) (asked t i q cost)
asked-is t names room trail put states new b i place q cost k at spare is_open p n =
    let links : put.links ≡ slice_set trail.links place (with_last at.link q None) = ap (λ (x : TrailValue). x.links) p in
    let items : new.items ≡ slice_set states.items place (charged_state cost at.state) = ap (λ (x : ReservedValue NodeState). x.items) n in
    let room-links : put.spare ≡ trail.spare = ap (λ (x : TrailValue). x.spare) p in
    let room-states : new.spare ≡ states.spare = ap (λ (x : ReservedValue NodeState). x.spare) n in
    tree-same (rows_from names put.links new.items) (charged_rows i q cost t.rows) (min room (min put.spare new.spare)) t.spare b t.siblings_open
    (rw (links, items) (sym (rows-at t names trail.links states.items i place q cost None k at)))
    (rw (room-links, room-states) (sym spare))
    (sym is_open)

-- and its lists
pub asked-holds : (t : TreeValue) (names : List ℕ) (trail put : TrailValue) (states new : ReservedValue NodeState) (i place q cost : ℕ) → Keeps t names trail.links states.items → (at : At t names trail.links states.items i place) → IsNext t q → put ≡ with_link trail place (with_last at.link q None) → new ≡ with_item states place (charged_state cost at.state) → HoldTree names put.links new.items
asked-holds t names trail put states new i place q cost k at next p n =
    let links : put.links ≡ slice_set trail.links place (with_last at.link q None) = ap (λ (x : TrailValue). x.links) p in
    let items : new.items ≡ slice_set states.items place (charged_state cost at.state) = ap (λ (x : ReservedValue NodeState). x.items) n in
    rw (links, items) (hold-asked names trail.links states.items place q cost at.link at.state k.hold at.at_link at.at_state (names-below t names trail.links states.items q k next))
