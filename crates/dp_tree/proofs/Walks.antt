-- The walk along the table is the way up through the history.
use Rattle.std.proofs.Common.{◌≡◌, ℕ, zero, suc, ◌<◌, Option, Some, None, List, ◌∷◌, length, slice_get, slice_index, refl, sym, ◌∙◌, ap, subst, arith}
use Rattle.std.proofs.lemmas.Option.{slice_get_within}
use Rattle.std.proofs.lemmas.List.{length-map}
use Rattle.dp_budget.specs.Rules.{refusal}
use Rattle.dp_budget.specs.declared.budget.Rule.{Rule}
use Rattle.dp_tree.specs.History.{Seat, Event, Node, nodes, node_at, ancestors, last_at, nearest_later, frozen, find_fault, over_at, seat_fault, seat_refusal, account}
use Rattle.dp_tree.specs.Table.{Row, TreeValue, numbers, parents, lasts, place_of, row_of, places_above, frozen_in, fault_of_row, fault_in, over_of_row, over_in, seat_fault_of_row, seat_fault_in}
use Rattle.dp_tree.specs.Standing.{Stands, node_of_row}
use Rattle.dp_tree.proofs.Rows.{slice_index-map, row_within, place-found}
use Rattle.dp_tree.proofs.Nodes.{ancestors-root, ancestors-below, IsBelow, node-listed}

-- one step of a way up on both sides
nearest-step : (number last name late : ℕ → ℕ) (i a b : ℕ) (rest more : List ℕ) → number a ≡ name b → last a ≡ late b → nearest_later number last i rest ≡ nearest_later name late i more → nearest_later number last i (a ∷ rest) ≡ nearest_later name late i (b ∷ more)
nearest-step number last name late i a b rest more e f g = rw (e, f, g) refl

-- the way up along the table, from a row of some depth
pub walk-is : (root : Seat) (past : List Event) (t : TreeValue) (i : ℕ) → Stands root past t → (depth place : ℕ) (row : Row) → slice_get t.rows place ≡ Some row → row.depth ≡ depth → frozen_in t.rows i depth place ≡ nearest_later (λ g. g) (last_at past) i (ancestors past row.number)
walk-is root past t i s zero place row h d =
    rw (ancestors-root root past row.number (node_of_row (nodes past) row) (s.rows place row h).node d) refl
walk-is root past t i s (suc depth) place row h d =
    let here = s.rows place row h in
    let node = node_of_row (nodes past) row in
    let up = ancestors-below root past row.number node s.accepted here.node (omega (arith, d)) in
    let fits : row.parent < length t.rows = let l = length-map t.rows (λ (r : Row). r.number) in let e = ap length s.nodes in omega (arith, l, e, here.above) in
    let above = row_within t.rows row.parent fits in
    let there = s.rows row.parent above.0 above.1 in
    let name : slice_index (numbers t.rows) row.parent ≡ above.0.number = slice_index-map (λ (r : Row). r.number) t.rows row.parent above.0 above.1 in
    let same : above.0.number ≡ node.parent = sym name ∙ ap (λ names. slice_index names row.parent) s.nodes in
    let late : slice_index (lasts t.rows) row.parent ≡ last_at past node.parent
    = slice_index-map (λ (r : Row). r.last) t.rows row.parent above.0 above.1 ∙ there.last ∙ ap (last_at past) same in
    let deep : above.0.depth ≡ depth
    = above-depth root past node up above.0 (subst (λ n. node_at root past n ≡ Some (node_of_row (nodes past) above.0)) same there.node) depth d in
    let rest = walk-is root past t i s depth row.parent above.0 above.1 deep in
    let onward : frozen_in t.rows i depth row.parent ≡ nearest_later (λ g. g) (last_at past) i (ancestors past node.parent)
    = rest ∙ ap (λ n. nearest_later (λ g. g) (last_at past) i (ancestors past n)) same in
    let parent : slice_index (parents t.rows) place ≡ row.parent = slice_index-map (λ (r : Row). r.parent) t.rows place row h in
    rw (up.list, parent) (nearest-step (slice_index (numbers t.rows)) (slice_index (lasts t.rows)) (λ g. g) (last_at past) i row.parent node.parent (places_above (parents t.rows) depth row.parent) (ancestors past node.parent) (name ∙ same) late onward)
  where
    above-depth : (root : Seat) (past : List Event) (node : Node) {i : ℕ} (up : IsBelow root past i node) (r : Row) → node_at root past node.parent ≡ Some (node_of_row (nodes past) r) → (depth : ℕ) → node.depth ≡ suc depth → r.depth ≡ depth
    above-depth root past node up r h depth d =
        let e : Some up.above ≡ Some (node_of_row (nodes past) r) = sym up.found ∙ h in
        let f : up.above.depth ≡ r.depth = cc in
        let g = up.deeper in
        omega (arith, f, g, d)

-- the row of a node has its number
pub row-number : (t : TreeValue) (i : ℕ) (row : Row) → row_of t i ≡ Some row → row.number ≡ i
row-number t i row h =
    let inside = slice_get_within t.rows (place_of (numbers t.rows) i) row h in
    let l = length-map t.rows (λ (r : Row). r.number) in
    let found = place-found (numbers t.rows) i (omega (arith, inside, l)) in
    sym (slice_index-map (λ (r : Row). r.number) t.rows (place_of (numbers t.rows) i) row h) ∙ found

-- a node has a row
pub node-row : (root : Seat) (past : List Event) (t : TreeValue) (i : ℕ) (node : Node) → Stands root past t → node_at root past i ≡ Some node → (row : Row) × (row_of t i ≡ Some row)
node-row root past t i node s h =
    let listed = node-listed root past i node h in
    let l = length-map t.rows (λ (r : Row). r.number) in
    let placed : place_of (numbers t.rows) i < length (numbers t.rows)
    = subst (λ names. place_of names i < length names) (sym s.nodes) listed in
    row_within t.rows (place_of (numbers t.rows) i) (omega (arith, placed, l))

-- and the row tells the node
pub row-node : (root : Seat) (past : List Event) (t : TreeValue) (i : ℕ) (row : Row) → Stands root past t → row_of t i ≡ Some row → node_at root past i ≡ Some (node_of_row (nodes past) row)
row-node root past t i row s h =
    subst (λ n. node_at root past n ≡ Some (node_of_row (nodes past) row)) (row-number t i row h)
    (s.rows (place_of (numbers t.rows) i) row h).node

no-row : (root : Seat) (past : List Event) (t : TreeValue) (i : ℕ) → Stands root past t → row_of t i ≡ None → node_at root past i ≡ None
no-row root past t i s h = go (node_at root past i) refl
  where
    go : (o : Option Node) → node_at root past i ≡ o → o ≡ None
    go None e = refl
    go (Some node) e = absurd (let row = node-row root past t i node s e in let k = row.1 in cc)

-- finding by the table is finding by the history
pub find-is : (root : Seat) (past : List Event) (t : TreeValue) (i : ℕ) → Stands root past t → fault_in t i ≡ find_fault t.siblings_open root past i
find-is root past t i s = go (row_of t i) refl
  where
    go : (o : Option Row) → row_of t i ≡ o → fault_of_row t i o ≡ find_fault t.siblings_open root past i
    go None h = rw (no-row root past t i s h) refl
    go (Some row) h =
        let up : frozen_in t.rows i row.depth (place_of (numbers t.rows) i) ≡ frozen past i
        = walk-is root past t i s row.depth (place_of (numbers t.rows) i) row h refl
        ∙ ap (λ n. nearest_later (λ g. g) (last_at past) i (ancestors past n)) (row-number t i row h) in
        rw (row-node root past t i row s h, up) refl

-- the row's budget is the node's account
pub row-account : (root : Seat) (past : List Event) (t : TreeValue) (i : ℕ) (row : Row) → Stands root past t → row_of t i ≡ Some row → row.budget ≡ account past i row.budget.rule
row-account root past t i row s h =
    (s.rows (place_of (numbers t.rows) i) row h).budget ∙ ap (λ n. account past n row.budget.rule) (row-number t i row h)

pub over-is : (root : Seat) (past : List Event) (t : TreeValue) (i cost : ℕ) → Stands root past t → over_in t i cost ≡ over_at root past i cost
over-is root past t i cost s = go (row_of t i) refl
  where
    go : (o : Option Row) → row_of t i ≡ o → over_of_row cost o ≡ over_at root past i cost
    go None h = rw (no-row root past t i s h) refl
    go (Some row) h = rw (row-node root past t i row s h) (ap (λ b. refusal b cost) (row-account root past t i row s h))

pub seat-is : (root : Seat) (past : List Event) (t : TreeValue) (i distance mapped : ℕ) (rule : Rule) → Stands root past t → seat_fault_in t i distance mapped rule ≡ seat_fault root past i distance mapped rule
seat-is root past t i distance mapped rule s = go (row_of t i) refl
  where
    go : (o : Option Row) → row_of t i ≡ o → seat_fault_of_row distance mapped rule o ≡ seat_fault root past i distance mapped rule
    go None h = rw (no-row root past t i s h) refl
    go (Some row) h = rw (row-node root past t i row s h) (ap (λ b. seat_refusal row.depth b distance mapped rule) (row-account root past t i row s h))
