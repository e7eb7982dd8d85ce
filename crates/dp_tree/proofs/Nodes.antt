-- The nodes of a history, and what is above them.
use Rattle.std.proofs.Common.{◌≡◌, ◌≢◌, ℕ, ◌+◌, ◌≤◌, ◌<◌, true, Option, Some, None, inl, inr, List, [], ◌∷◌, length, is_some, refl, sym, ◌∙◌, ap, subst, arith, eqb}
use Rattle.std.proofs.lemmas.Bool.Decides.{nat_tests, eqb_tells}
use Rattle.std.specs.Option.{option_map}
use Rattle.dp_tree.specs.History.{Seat, Event, Ask, Open, Node, node_at, root_node, child, nodes, ancestors, newest, number_of, node_of, last_at, Accepted}
use Rattle.dp_tree.specs.Table.{place_of}
use Rattle.dp_tree.proofs.Rows.{chosen, eqb-same, eqb-other, place-here, place-more, place-last}

-- what stands behind a choice that was made of something
pub made : {A B : Type 0} (f : A → B) (o : Option A) (b : B) → option_map f o ≡ Some b → (a : A) × (o ≡ Some a) × (b ≡ f a)
made f None b h = absurd cc
made f (Some a) b h = (a, refl, cc)

pub none-or-some : {A : Type 0} (o : Option A) → is_some o ≡ true → (a : A) × (o ≡ Some a)
none-or-some None h = absurd cc
none-or-some (Some a) h = (a, refl)

-- a node's number is not above the newest query's
pub node-le : (root : Seat) (past : List Event) (i : ℕ) (node : Node) → Accepted root past → node_at root past i ≡ Some node → i ≤ newest past
node-le root [] i node a h = elim (chosen (eqb i 0) (Some (root_node root)) None node h) [
  | inl k ↦ grind (arith, nat_tests, k.0)
  | inr k ↦ absurd (let e = k.1 in cc)
]
node-le root (Ask q n c ∷ past) i node a h = let ih = node-le root past i node a.0 h in omega (arith, ih, a.1)
node-le root (Open q n seat m ∷ past) i node a h =
    elim (chosen (eqb q i) (option_map (child n seat) (node_at root past n)) (node_at root past i) node h) [
      | inl k ↦ grind (arith, nat_tests, k.0)
      | inr k ↦ let ih = node-le root past i node a.0 k.1 in omega (arith, ih, a.1)
    ]

-- a node is among the numbers of all nodes
pub node-listed : (root : Seat) (past : List Event) (i : ℕ) (node : Node) → node_at root past i ≡ Some node → place_of (nodes past) i < length (nodes past)
node-listed root [] i node h = elim (chosen (eqb i 0) (Some (root_node root)) None node h) [
  | inl k ↦
      let e : 0 ≡ i = grind (arith, nat_tests, k.0) in
      let here = place-here 0 i [] e in
      omega (arith, here)
  | inr k ↦ absurd (let e = k.1 in cc)
]
node-listed root (Ask q n c ∷ past) i node h = node-listed root past i node h
node-listed root (Open q n seat m ∷ past) i node h =
    elim (chosen (eqb q i) (option_map (child n seat) (node_at root past n)) (node_at root past i) node h) [
      | inl k ↦
          let e : i ≡ q = grind (arith, nat_tests, k.0) in
          rw e (place-last (nodes past) q)
      | inr k ↦ place-more (nodes past) i q (node-listed root past i node k.1)
    ]

-- an open changes nothing above another node
pub ancestors-kept : (q n m : ℕ) (seat : Seat) (past : List Event) (i : ℕ) → q ≢ i → ancestors (Open q n seat m ∷ past) i ≡ ancestors past i
ancestors-kept q n m seat past i h = rw (eqb-other q i h) refl

pub node-kept : (q n m : ℕ) (root seat : Seat) (past : List Event) (i : ℕ) → q ≢ i → node_at root (Open q n seat m ∷ past) i ≡ node_at root past i
node-kept q n m root seat past i h = rw (eqb-other q i h) refl

-- a node at depth 0 has none above it
pub ancestors-root : (root : Seat) (past : List Event) (i : ℕ) (node : Node) → node_at root past i ≡ Some node → node.depth ≡ 0 → ancestors past i ≡ []
ancestors-root root [] i node h d = refl
ancestors-root root (Ask q n c ∷ past) i node h d = ancestors-root root past i node h d
ancestors-root root (Open q n seat m ∷ past) i node h d =
    elim (chosen (eqb q i) (option_map (child n seat) (node_at root past n)) (node_at root past i) node h) [
      | inl k ↦
          let above = made (child n seat) (node_at root past n) node k.1 in
          let e : node.depth ≡ above.0.depth + 1 = ap (λ (x : Node). x.depth) above.2 in
          absurd (omega (arith, e, d))
      | inr k ↦ rw k.0 (ancestors-root root past i node k.1 d)
    ]

-- what is above a node: its parent, and what is above that
pub record IsBelow (root : Seat) (past : List Event) (i : ℕ) (node : Node) : Type 0 where
  pub list : ancestors past i ≡ node.parent ∷ ancestors past node.parent
  pub above : Node
  pub found : node_at root past node.parent ≡ Some above
  pub deeper : node.depth ≡ above.depth + 1

-- a node that was opened last is below its parent
opened-below : (root : Seat) (past : List Event) (q n m i : ℕ) (seat : Seat) (above : Node) → Accepted root past → newest past < q → eqb q i ≡ true → node_at root past n ≡ Some above → IsBelow root (Open q n seat m ∷ past) i (child n seat above)
opened-below root past q n m i seat above a later same found =
    let older = node-le root past n above a found in
    let new : q ≢ n = λ e. omega (arith, e, older, later) in
    record {
      list = rw (same, eqb-other q n new) refl;
      above = above;
      found = node-kept q n m root seat past n new ∙ found;
      deeper = refl;
    }

pub ancestors-below : (root : Seat) (past : List Event) (i : ℕ) (node : Node) → Accepted root past → node_at root past i ≡ Some node → 0 < node.depth → IsBelow root past i node
ancestors-below root [] i node a h d = elim (chosen (eqb i 0) (Some (root_node root)) None node h) [
  | inl k ↦
      let e : node.depth ≡ 0 = let same = k.1 in cc in
      absurd (omega (arith, e, d))
  | inr k ↦ absurd (let e = k.1 in cc)
]
ancestors-below root (Ask q n c ∷ past) i node a h d =
    let ih = ancestors-below root past i node a.0 h d in
    record { list = ih.list; above = ih.above; found = ih.found; deeper = ih.deeper }
ancestors-below root (Open q n seat m ∷ past) i node a h d =
    elim (chosen (eqb q i) (option_map (child n seat) (node_at root past n)) (node_at root past i) node h) [
      | inl k ↦
          let above = made (child n seat) (node_at root past n) node k.1 in
          subst (λ x. IsBelow root (Open q n seat m ∷ past) i x) (sym above.2)
          (opened-below root past q n m i seat above.0 a.0 a.1 k.0 above.1)
      | inr k ↦
          let ih = ancestors-below root past i node a.0 k.1 d in
          let older = node-le root past node.parent ih.above a.0 ih.found in
          let new : q ≢ node.parent = λ e. omega (arith, e, older, a.1) in
          record {
            list = rw (k.0, eqb-other q node.parent new) ih.list;
            above = ih.above;
            found = node-kept q n m root seat past node.parent new ∙ ih.found;
            deeper = ih.deeper;
          }
    ]

-- no query at a node is above the newest
pub last-le : (root : Seat) (past : List Event) (i : ℕ) → Accepted root past → last_at past i ≤ newest past
last-le root [] i a = omega arith
last-le root (e ∷ past) i a =
    let ih = last-le root past i a.0 in
    elim (eqb_tells (node_of e) i) [
      | inl h ↦ rw h.0 (omega (arith, ih, a.1))
      | inr h ↦ rw h.0 (omega (arith, ih, a.1))
    ]

-- a query is the last at its node
pub last-new : (root : Seat) (past : List Event) (e : Event) → Accepted root past → newest past < number_of e → last_at (e ∷ past) (node_of e) ≡ number_of e
last-new root past e a h =
    let old = last-le root past (node_of e) a in
    rw (eqb-same (node_of e)) (omega (arith, old, h))
