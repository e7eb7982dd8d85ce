-- A tree that stands at a history stands, after a query, at the history with that query.
use Rattle.std.proofs.Common.{◌≡◌, ◌≢◌, ℕ, zero, suc, ◌+◌, ◌*◌, ◌≤◌, ◌<◌, cond, Some, None, inl, inr, List, [], ◌∷◌, ◌++◌, length, slice_get, slice_index, refl, sym, ◌∙◌, ap, subst, arith, eqb}
use Rattle.std.proofs.lemmas.Bool.Decides.{eqb_tells}
use Rattle.std.proofs.lemmas.Option.{slice_get-map, slice_get_within}
use Rattle.std.proofs.lemmas.List.{length-map, length-append, map-append}
use Rattle.std.proofs.lemmas.List.Sums.{sum_by-cons}
use Rattle.dp_budget.specs.Rules.{charged, fresh, turn}
use Rattle.dp_budget.specs.declared.budget.Rule.{Rule}
use Rattle.dp_tree.specs.History.{Seat, Event, Ask, Open, node_at, nodes, newest, number_of, node_of, cost_of, total, spent, queries, account, last_at, Accepted}
use Rattle.dp_tree.specs.Table.{Row, TreeValue, numbers, place_of, row_of, depth_of_row, over_in, charged_row, charged_rows, new_row, asked, opened, root_rows, IsNext}
use Rattle.dp_tree.specs.Standing.{Stands, StandsStill, IsRow, node_of_row, seat_of}
use Rattle.dp_tree.proofs.Rows.{eqb-same, eqb-other, row_append, number_append_left, place-found}
use Rattle.dp_tree.proofs.Nodes.{made, none-or-some, node-le, node-kept, last-le}
use Rattle.dp_tree.proofs.Walks.{row-node, over-is}

-- the accounts after a query: the node's is charged
pub account-here : (past : List Event) (e : Event) (i : ℕ) (rule : Rule) → node_of e ≡ i → account (e ∷ past) i rule ≡ charged (account past i rule) (cost_of e)
account-here past e i rule h =
    let s : spent (e ∷ past) i ≡ spent past i + cost_of e
    = sum_by-cons (λ (x : Event). cond (eqb (node_of x) i) (cost_of x) 0) e past ∙ rw (h, eqb-same i) (omega arith) in
    let q : queries (e ∷ past) i ≡ queries past i + 1
    = sum_by-cons (λ (x : Event). cond (eqb (node_of x) i) 1 0) e past ∙ rw (h, eqb-same i) (omega arith) in
    let p : queries (e ∷ past) i * turn rule ≡ queries past i * turn rule + turn rule
    = ap (λ n. n * turn rule) q ∙ more (queries past i) (turn rule) in
    rw (s, p) refl
  where
    more : (a b : ℕ) → (a + 1) * b ≡ a * b + b
    more a b = omega arith

-- and the others stay
pub account-other : (past : List Event) (e : Event) (i : ℕ) (rule : Rule) → node_of e ≢ i → account (e ∷ past) i rule ≡ account past i rule
account-other past e i rule h =
    let s : spent (e ∷ past) i ≡ spent past i
    = sum_by-cons (λ (x : Event). cond (eqb (node_of x) i) (cost_of x) 0) e past ∙ rw (eqb-other (node_of e) i h) (omega arith) in
    let q : queries (e ∷ past) i ≡ queries past i
    = sum_by-cons (λ (x : Event). cond (eqb (node_of x) i) 1 0) e past ∙ rw (eqb-other (node_of e) i h) (omega arith) in
    rw (s, q) refl

last-here : (root : Seat) (past : List Event) (e : Event) (i : ℕ) → Accepted root past → newest past < number_of e → node_of e ≡ i → last_at (e ∷ past) i ≡ number_of e
last-here root past e i a later h =
    let old = last-le root past i a in
    rw (h, eqb-same i) (omega (arith, old, later))

last-other : (past : List Event) (e : Event) (i : ℕ) → node_of e ≢ i → last_at (e ∷ past) i ≡ last_at past i
last-other past e i h = rw (eqb-other (node_of e) i h) refl

-- a row after a query, where the nodes that were there are as before
pub row-after : (root : Seat) (past : List Event) (e : Event) (row : Row) → Accepted root past → newest past < number_of e → (row.parent < length (nodes (e ∷ past))) → (node_at root (e ∷ past) row.number ≡ Some (node_of_row (nodes (e ∷ past)) row)) → IsRow root past row → IsRow root (e ∷ past) (cond (eqb row.number (node_of e)) (charged_row (number_of e) (cost_of e) row) row)
row-after root past e row a later above node old = elim (eqb_tells row.number (node_of e)) as (λ _. IsRow root (e ∷ past) (cond (eqb row.number (node_of e)) (charged_row (number_of e) (cost_of e) row) row)) [
  | inl h ↦ rw h.0 (record {
    above = above;
    node = node;
    budget = ap (λ b. charged b (cost_of e)) old.budget ∙ sym (account-here past e row.number row.budget.rule (sym h.1));
    last = sym (last-here root past e row.number a later (sym h.1));
  })
  | inr h ↦
      let other : node_of e ≢ row.number = λ k. h.1 (sym k) in
      rw h.0 (record {
        above = above;
        node = node;
        budget = old.budget ∙ sym (account-other past e row.number row.budget.rule other);
        last = old.last ∙ sym (last-other past e row.number other);
      })
]

-- charging changes no number
pub numbers-charged : (i number cost : ℕ) (rows : List Row) → numbers (charged_rows i number cost rows) ≡ numbers rows
numbers-charged i number cost [] = refl
numbers-charged i number cost (row ∷ rows) = elim (eqb_tells row.number i) [
  | inl h ↦ rw h.0 (ap (λ ns. row.number ∷ ns) (numbers-charged i number cost rows))
  | inr h ↦ rw h.0 (ap (λ ns. row.number ∷ ns) (numbers-charged i number cost rows))
]

-- the row behind a charged one
charged-from : (i number cost : ℕ) (rows : List Row) (place : ℕ) (row : Row) → slice_get (charged_rows i number cost rows) place ≡ Some row → (old : Row) × (slice_get rows place ≡ Some old) × (row ≡ cond (eqb old.number i) (charged_row number cost old) old)
charged-from i number cost rows place row h =
    made (λ (old : Row). cond (eqb old.number i) (charged_row number cost old) old) (slice_get rows place) row
    (sym (slice_get-map (λ (old : Row). cond (eqb old.number i) (charged_row number cost old) old) rows place) ∙ h)

-- what is known of an accepted query
accepted-more : (root : Seat) (past : List Event) (t : TreeValue) (e : Event) (row : Row) → Stands root past t → newest past < number_of e → row_of t (node_of e) ≡ Some row → over_in t (node_of e) (cost_of e) ≡ None → Accepted root (e ∷ past)
accepted-more root past t e row s later found within =
    (s.accepted, later, rw (row-node root past t (node_of e) row s found) refl, sym (over-is root past t (node_of e) (cost_of e) s) ∙ within)

-- after an ask
pub ask-stands : (root : Seat) (past : List Event) (t : TreeValue) (i number cost : ℕ) (row : Row) → Stands root past t → newest past < number → row_of t i ≡ Some row → over_in t i cost ≡ None → Stands root (Ask number i cost ∷ past) (asked t i number cost)
ask-stands root past t i number cost row s later found within = record {
  accepted = accepted-more root past t (Ask number i cost) row s later found within;
  nodes = numbers-charged i number cost t.rows ∙ s.nodes;
  rows = λ place new h.
      let old = charged-from i number cost t.rows place new h in
      let is = s.rows place old.0 old.1 in
      subst (IsRow root (Ask number i cost ∷ past)) (sym old.2)
      (row-after root past (Ask number i cost) old.0 s.accepted later is.above is.node is);
}

-- nothing was addressed to a node whose number is still to come
pub account-new : (root : Seat) (past : List Event) (i : ℕ) (rule : Rule) → Accepted root past → newest past < i → account past i rule ≡ fresh rule
account-new root [] i rule a later = let e : 0 * turn rule ≡ 0 = omega arith in rw e refl
account-new root (e ∷ past) i rule a later =
    let node = none-or-some (node_at root past (node_of e)) a.2 in
    let known = node-le root past (node_of e) node.0 a.0 node.1 in
    account-other past e i rule (λ k. omega (arith, k, known, a.1, later))
    ∙ account-new root past i rule a.0 (omega (arith, a.1, later))

last-none : (root : Seat) (past : List Event) (i : ℕ) → Accepted root past → newest past < i → last_at past i ≡ 0
last-none root [] i a later = refl
last-none root (e ∷ past) i a later =
    let node = none-or-some (node_at root past (node_of e)) a.2 in
    let known = node-le root past (node_of e) node.0 a.0 node.1 in
    last-other past e i (λ k. omega (arith, k, known, a.1, later))
    ∙ last-none root past i a.0 (omega (arith, a.1, later))

-- a row that was there before an open
row-before : (root : Seat) (past : List Event) (q i mapped : ℕ) (seat : Seat) (row : Row) → Accepted root past → newest past < q → IsRow root past row → (row.parent < length (nodes past ++ q ∷ [])) × (node_at root (Open q i seat mapped ∷ past) row.number ≡ Some (node_of_row (nodes past ++ q ∷ []) row))
row-before root past q i mapped seat row a later old =
    let known = node-le root past row.number (node_of_row (nodes past) row) a old.node in
    let l = length-append (nodes past) (q ∷ []) in
    let kept = node-kept q i mapped root seat past row.number (λ k. omega (arith, k, known, later)) in
    (omega (arith, old.above, l), kept ∙ old.node ∙ ap (λ parent. Some (record { parent = parent; depth = row.depth; seat = seat_of row })) (sym (number_append_left (nodes past) (q ∷ []) row.parent old.above)))

-- the row of the opened node
row-opened : (root : Seat) (past : List Event) (q i mapped parent : ℕ) (seat : Seat) (row : Row) → Accepted root past → newest past < q → node_at root past i ≡ Some (node_of_row (nodes past) row) → parent < length (nodes past) → slice_index (nodes past) parent ≡ i → IsRow root (Open q i seat mapped ∷ past) (new_row q parent (row.depth + 1) seat)
row-opened root past q i mapped parent seat row a later found inside is =
    let known = node-le root past i (node_of_row (nodes past) row) a found in
    let new : i ≢ q = λ k. omega (arith, k, known, later) in
    let e = Open q i seat mapped in
    let l = length-append (nodes past) (q ∷ []) in
    let place : slice_index (nodes past ++ q ∷ []) parent ≡ i = number_append_left (nodes past) (q ∷ []) parent inside ∙ is in
    record {
      above = omega (arith, inside, l);
      node = rw (eqb-same q, found, place) refl;
      budget = sym (account-other past e q seat.rule new ∙ account-new root past q seat.rule a later);
      last = sym (last-other past e q new ∙ last-none root past q a later);
    }

-- after an open
pub open-stands : (root : Seat) (past : List Event) (t : TreeValue) (i number mapped : ℕ) (seat : Seat) (row : Row) → Stands root past t → newest past < number → row_of t i ≡ Some row → over_in t i (total seat.rule) ≡ None → Stands root (Open number i seat mapped ∷ past) (opened t i number seat)
open-stands root past t i number mapped seat row s later found within =
    let inside = slice_get_within t.rows (place_of (numbers t.rows) i) row found in
    let l = length-map t.rows (λ (r : Row). r.number) in
    let named = place-found (numbers t.rows) i (omega (arith, inside, l)) in
    let many = ap length s.nodes in
    let here = row-node root past t i row s found in
    let opened-row = row-opened root past number i mapped (place_of (numbers t.rows) i) seat row s.accepted later here (omega (arith, inside, l, many)) (ap (λ names. slice_index names (place_of (numbers t.rows) i)) (sym s.nodes) ∙ named) in
    let deep : depth_of_row (row_of t i) ≡ row.depth = rw found refl in
    record {
      accepted = accepted-more root past t (Open number i seat mapped) row s later found within;
      nodes = map-append (λ (r : Row). r.number) (charged_rows i number (total seat.rule) t.rows) (new_row number (place_of (numbers t.rows) i) (depth_of_row (row_of t i) + 1) seat ∷ []) ∙ ap (λ names. names ++ number ∷ []) (numbers-charged i number (total seat.rule) t.rows ∙ s.nodes);
      rows = λ place new h.
          elim (row_append (charged_rows i number (total seat.rule) t.rows) (new_row number (place_of (numbers t.rows) i) (depth_of_row (row_of t i) + 1) seat) place new h) [
            | inl at ↦
                let old = charged-from i number (total seat.rule) t.rows place new at in
                let is = s.rows place old.0 old.1 in
                let before = row-before root past number i mapped seat old.0 s.accepted later is in
                subst (IsRow root (Open number i seat mapped ∷ past)) (sym old.2)
                (row-after root past (Open number i seat mapped) old.0 s.accepted later before.0 before.1 is)
            | inr at ↦
                subst (IsRow root (Open number i seat mapped ∷ past)) (sym (at.1 ∙ ap (λ d. new_row number (place_of (numbers t.rows) i) (d + 1) seat) deep)) opened-row
          ];
    }

-- a tree with the root alone stands at no query
pub root-stands : (root : Seat) (t : TreeValue) → t.rows ≡ root_rows root → Stands root [] t
root-stands root t h = record {
  accepted = tt;
  nodes = rw h refl;
  rows = λ place row e. only place row (rw h at e);
}
  where
    only : (place : ℕ) (row : Row) → slice_get (root_rows root) place ≡ Some row → IsRow root [] row
    only zero row h =
        let same : new_row 0 0 0 root ≡ row = cc in
        let none : 0 * turn root.rule ≡ 0 = omega arith in
        subst (IsRow root []) same (record {
          above = omega arith;
          node = refl;
          budget = rw none refl;
          last = refl;
        })
    only (suc place) row h = absurd cc

-- a number above the newest query's is above all numbers of the table
pub next-is : (root : Seat) (past : List Event) (t : TreeValue) (number : ℕ) → Stands root past t → newest past < number → IsNext t number
next-is root past t number s later = λ place row h.
    let is = s.rows place row h in
    let known = node-le root past row.number (node_of_row (nodes past) row) s.accepted is.node in
    let old = last-le root past row.number s.accepted in
    (omega (arith, known, later), omega (arith, is.last, old, later))

-- a number above the next is above all numbers of the table
pub next-later : (t : TreeValue) (number later : ℕ) → IsNext t number → number ≤ later → IsNext t later
next-later t number later next less = λ place row h.
    let below = next place row h in
    (omega (arith, below.0, less), omega (arith, below.1, less))

-- the row of a query is below what comes after it
next-charged : (i number cost : ℕ) (row : Row) → (row.number < number) × (row.last < number) → ((cond (eqb row.number i) (charged_row number cost row) row).number < number + 1) × ((cond (eqb row.number i) (charged_row number cost row) row).last < number + 1)
next-charged i number cost row below = elim (eqb_tells row.number i) [
  | inl h ↦ rw h.0 (omega (arith, below.0), omega arith)
  | inr h ↦ rw h.0 (omega (arith, below.0), omega (arith, below.1))
]

next-rows : (i number cost : ℕ) (t : TreeValue) → IsNext t number → (place : ℕ) (row : Row) → slice_get (charged_rows i number cost t.rows) place ≡ Some row → (row.number < number + 1) × (row.last < number + 1)
next-rows i number cost t next place row h =
    let old = charged-from i number cost t.rows place row h in
    subst (λ (r : Row). (r.number < number + 1) × (r.last < number + 1)) (sym old.2) (next-charged i number cost old.0 (next place old.0 old.1))

-- the next query after an ask
pub next-asked : (t : TreeValue) (i number cost : ℕ) → IsNext t number → IsNext (asked t i number cost) (number + 1)
next-asked t i number cost next = next-rows i number cost t next

-- the next query after an open
pub next-opened : (t : TreeValue) (i number : ℕ) (seat : Seat) → IsNext t number → IsNext (opened t i number seat) (number + 1)
next-opened t i number seat next = λ place row h.
    elim (row_append (charged_rows i number (total seat.rule) t.rows) (new_row number (place_of (numbers t.rows) i) (depth_of_row (row_of t i) + 1) seat) place row h) [
      | inl at ↦ next-rows i number (total seat.rule) t next place row at
      | inr at ↦ subst (λ (r : Row). (r.number < number + 1) × (r.last < number + 1)) (sym at.1) (omega arith, omega arith)
    ]

-- a tree with the same table stands where the other does
pub stands-still : (old new : TreeValue) → new.rows ≡ old.rows → StandsStill old new
stands-still old new e root past s = record {
  accepted = s.accepted;
  nodes = ap numbers e ∙ s.nodes;
  rows = λ place row h. s.rows place row (ap (λ rows. slice_get rows place) (sym e) ∙ h);
}
