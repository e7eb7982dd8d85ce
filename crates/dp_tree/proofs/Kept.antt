-- What a tree's lists say of its table.
use Rattle.std.proofs.Common.{◌≡◌, ℕ, zero, suc, ◌≤◌, ◌<◌, true, false, Option, Some, None, List, length, slice_get, slice_index, refl, sym, ◌∙◌, ap, subst, arith, IsSome, IfSome}
use Rattle.std.proofs.lemmas.Option.{slice_get_within, slice_get_past}
use Rattle.std.proofs.lemmas.List.{length-map}
use Rattle.dp_num.specs.declared.trail.Link.{Link}
use Rattle.dp_tree.specs.declared.states.NodeState.{NodeState}
use Rattle.dp_tree.specs.declared.faults.FindFault.TheVariants.{NoNode}
use Rattle.dp_tree.specs.Table.{Row, TreeValue, numbers, parents, lasts, place_of, row_of, fault_in, fault_of_row, frozen_in}
use Rattle.dp_tree.specs.Lists.{HoldTree, ParentsInside, frozen_from, rows_from, link_parents, link_lasts, depths, IsStateOf}
use Rattle.dp_tree.proofs.Rows.{slice_index-map, row_within}
use Rattle.dp_tree.proofs.Lists.{rows-numbers, rows-parents, rows-lasts, rows-length, row-parts, PartsOf, rise-place, rise-ge}

pub hold-links : (names : List ℕ) (links : List Link) (states : List NodeState) → HoldTree names links states → length links ≡ length names
hold-links names links states h =
    let l = length-map links (λ (l : Link). l.parent) in
    let e = h.shape.as_many_parents in
    omega (arith, l, e)

pub hold-states : (names : List ℕ) (links : List Link) (states : List NodeState) → HoldTree names links states → length states ≡ length names
hold-states names links states h =
    let l = length-map states (λ (s : NodeState). s.depth) in
    let e = h.shape.as_many_levels in
    omega (arith, l, e)

pub hold-inside : (names : List ℕ) (links : List Link) (states : List NodeState) → HoldTree names links states → ParentsInside links
hold-inside names links states h zero l =
    let e = h.shape.root_parent in
    omega (arith, e, l)
hold-inside names links states h (suc k) l =
    let many = hold-links names links states h in
    let less = h.shape.before (suc k) (omega arith) (omega (arith, l, many)) in
    omega (arith, l, less)

-- the lists are those of the tree
pub record Keeps (t : TreeValue) (names : List ℕ) (links : List Link) (states : List NodeState) : Type 0 where
  pub rows : t.rows ≡ rows_from names links states
  pub hold : HoldTree names links states

pub keeps-many : (t : TreeValue) (names : List ℕ) (links : List Link) (states : List NodeState) → Keeps t names links states → length t.rows ≡ length names
keeps-many t names links states k =
    ap length k.rows ∙ rows-length names links states (hold-links names links states k.hold) (hold-states names links states k.hold)

pub keeps-numbers : (t : TreeValue) (names : List ℕ) (links : List Link) (states : List NodeState) → Keeps t names links states → numbers t.rows ≡ names
keeps-numbers t names links states k =
    ap numbers k.rows ∙ rows-numbers names links states (hold-links names links states k.hold) (hold-states names links states k.hold)

pub keeps-parents : (t : TreeValue) (names : List ℕ) (links : List Link) (states : List NodeState) → Keeps t names links states → parents t.rows ≡ link_parents links
keeps-parents t names links states k =
    ap parents k.rows ∙ rows-parents names links states (hold-links names links states k.hold) (hold-states names links states k.hold)

pub keeps-lasts : (t : TreeValue) (names : List ℕ) (links : List Link) (states : List NodeState) → Keeps t names links states → lasts t.rows ≡ link_lasts links
keeps-lasts t names links states k =
    ap lasts k.rows ∙ rows-lasts names links states (hold-links names links states k.hold) (hold-states names links states k.hold)

pub keeps-place : (t : TreeValue) (names : List ℕ) (links : List Link) (states : List NodeState) (i : ℕ) → Keeps t names links states → place_of (numbers t.rows) i ≡ place_of names i
keeps-place t names links states i k = ap (λ ns. place_of ns i) (keeps-numbers t names links states k)

-- the row of a node that is there
pub record Placed (t : TreeValue) (names : List ℕ) (links : List Link) (states : List NodeState) (i place : ℕ) : Type 0 where
  pub row : Row
  pub found : row_of t i ≡ Some row
  pub parts : PartsOf names links states place row

pub placed : (t : TreeValue) (names : List ℕ) (links : List Link) (states : List NodeState) (i place : ℕ) → Keeps t names links states → place ≡ place_of names i → place < length names → Placed t names links states i place
placed t names links states i place k e l =
    let many = keeps-many t names links states k in
    let at = row_within t.rows place (omega (arith, l, many)) in
    let here : place_of (numbers t.rows) i ≡ place = keeps-place t names links states i k ∙ sym e in
    record {
      row = at.0;
      found = ap (slice_get t.rows) here ∙ at.1;
      parts = row-parts names links states place at.0 (ap (λ rows. slice_get rows place) (sym k.rows) ∙ at.1);
    }

-- a node that has a row is there
pub present : (t : TreeValue) (names : List ℕ) (links : List Link) (states : List NodeState) (i : ℕ) → Keeps t names links states → IsSome (row_of t i) → place_of names i < length names
present t names links states i k h = go (row_of t i) refl h
  where
    go : (o : Option Row) → row_of t i ≡ o → IsSome o → place_of names i < length names
    go None e h = absurd cc
    go (Some row) e h =
        let inside = slice_get_within t.rows (place_of (numbers t.rows) i) row e in
        let many = keeps-many t names links states k in
        let here = keeps-place t names links states i k in
        omega (arith, inside, many, here)

pub absent : (t : TreeValue) (names : List ℕ) (links : List Link) (states : List NodeState) (i : ℕ) → Keeps t names links states → place_of names i ≡ length names → row_of t i ≡ None
absent t names links states i k e =
    let many = keeps-many t names links states k in
    let here = keeps-place t names links states i k in
    slice_get_past t.rows (place_of (numbers t.rows) i) (omega (arith, many, here, e))

pub none-is-not-some : (o : Option Row) → o ≡ None → IsSome o → ⊥
none-is-not-some None e h = cc
none-is-not-some (Some row) e h = cc

-- no node of the number
pub fault-none : (t : TreeValue) (names : List ℕ) (links : List Link) (states : List NodeState) (i : ℕ) → Keeps t names links states → place_of names i ≡ length names → fault_in t i ≡ Some NoNode
fault-none t names links states i k e = rw (absent t names links states i k e) refl

-- where siblings stay open
pub fault-open : (t : TreeValue) (names : List ℕ) (links : List Link) (states : List NodeState) (i place : ℕ) → Keeps t names links states → place ≡ place_of names i → place < length names → t.siblings_open ≡ true → fault_in t i ≡ None
fault-open t names links states i place k e l is_open =
    let at = placed t names links states i place k e l in
    of-open t i at.row at.found is_open
  where
    of-open : (t : TreeValue) (i : ℕ) (row : Row) → row_of t i ≡ Some row → t.siblings_open ≡ true → fault_in t i ≡ None
    of-open t i row found is_open = rw (found, is_open) refl

-- where they are frozen
pub fault-frozen : (t : TreeValue) (names : List ℕ) (links : List Link) (states : List NodeState) (i place : ℕ) (state : NodeState) → Keeps t names links states → place ≡ place_of names i → place < length names → slice_get states place ≡ Some state → t.siblings_open ≡ false → fault_in t i ≡ frozen_from names links i state.depth place
fault-frozen t names links states i place state k e l s closed =
    let at = placed t names links states i place k e l in
    let same : Some at.parts.state ≡ Some state = sym at.parts.at_state ∙ s in
    let level : at.parts.state.depth ≡ state.depth = cc in
    let depth : at.row.depth ≡ state.depth = ap (λ (r : Row). r.depth) at.parts.is ∙ level in
    of-frozen t i at.row at.found closed
    ∙ rw (depth, keeps-numbers t names links states k, keeps-parents t names links states k, keeps-lasts t names links states k, ← e) refl
  where
    of-frozen : (t : TreeValue) (i : ℕ) (row : Row) → row_of t i ≡ Some row → t.siblings_open ≡ false → fault_in t i ≡ frozen_in t.rows i row.depth (place_of (numbers t.rows) i)
    of-frozen t i row found closed = rw (found, closed) refl

-- a node that is found has a row
pub fault-some : (t : TreeValue) (i : ℕ) → fault_in t i ≡ None → IsSome (row_of t i)
fault-some t i h = go (row_of t i) refl
  where
    go : (o : Option Row) → row_of t i ≡ o → IsSome o
    go None e = absurd (let k : Some NoNode ≡ None = subst (λ o. fault_of_row t i o ≡ None) e h in cc)
    go (Some row) e = refl

-- the state of a node
pub state-of : (row : Row) (names : List ℕ) (links : List Link) (states : List NodeState) (place : ℕ) (state : NodeState) → PartsOf names links states place row → slice_get states place ≡ Some state → IsStateOf row state
state-of row names links states place state parts s =
    let same : parts.state ≡ state = some-same parts.state state (sym parts.at_state ∙ s) in
    subst (IsStateOf row) same (record {
      depth = ap (λ (r : Row). r.depth) parts.is;
      domain = ap (λ (r : Row). r.domain) parts.is;
      metric = ap (λ (r : Row). r.metric) parts.is;
      distance = ap (λ (r : Row). r.distance) parts.is;
      budget = ap (λ (r : Row). r.budget) parts.is;
    })
  where
    some-same : (a b : NodeState) → Some a ≡ Some b → a ≡ b
    some-same a b e = cc

pub if-some : (o : Option Row) (row : Row) → o ≡ Some row → (P : Row → Type 0) → P row → IfSome o P
if-some o row e P h = rw e h

-- no node is below depth 16
pub level-le : (names : List ℕ) (links : List Link) (states : List NodeState) (place : ℕ) (state : NodeState) → HoldTree names links states → slice_get states place ≡ Some state → state.depth ≤ 16
level-le names links states place state h s =
    let inside = slice_get_within states place state s in
    let many = hold-states names links states h in
    let low = h.shape.shallow place (omega (arith, inside, many)) in
    let same = slice_index-map (λ (x : NodeState). x.depth) states place state s in
    omega (arith, low, same)

-- there are no more nodes than numbers below the next
pub few-names : (names : List ℕ) (links : List Link) (states : List NodeState) (q : ℕ) → HoldTree names links states → ((j : ℕ) → j < length names → slice_index names j < q) → length names ≤ q
few-names names links states q h below = go (length names) refl
  where
    go : (n : ℕ) → length names ≡ n → length names ≤ q
    go zero e = omega (arith, e)
    go (suc n) e =
        let high = rise-ge names h.shape.rising n (omega (arith, e)) in
        let less = below n (omega (arith, e)) in
        omega (arith, e, high, less)

-- the root is at depth 0
pub root-level : (names : List ℕ) (links : List Link) (states : List NodeState) (place : ℕ) (state : NodeState) → HoldTree names links states → place ≡ place_of names 0 → slice_get states place ≡ Some state → state.depth ≡ 0
root-level names links states place state h e s =
    let first : place_of names 0 ≡ 0 = rise-place names 0 0 h.shape.rising h.shape.some h.shape.first in
    let here : slice_index (depths states) place ≡ 0 = ap (slice_index (depths states)) (e ∙ first) ∙ h.shape.root_level in
    sym (slice_index-map (λ (x : NodeState). x.depth) states place state s) ∙ here
