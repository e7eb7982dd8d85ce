-- Where a query freezes the nodes below it, the nodes that are not frozen stand on one path.
use Rattle.std.proofs.Common.{◌≡◌, ◌≢◌, ℕ, ◌≤◌, ◌<◌, Bool, true, false, cond, ◌||◌, Option, Some, None, ◌⊎◌, inl, inr, List, [], ◌∷◌, refl, sym, ◌∙◌, ap, subst, arith, eqb, ltb}
use Rattle.std.specs.List.{list_any}
use Rattle.std.proofs.lemmas.Bool.Decides.{nat_tests, eqb_tells}
use Rattle.dp_tree.specs.History.{Seat, Node, Event, Ask, Open, node_at, ancestors, newest, number_of, node_of, last_at, nearest_later, frozen, fault_of_node, find_fault, Accepted}
use Rattle.dp_tree.specs.Losses.{is_below, AllFound, opens, PathLaw, FreeLaw}
use Rattle.dp_tree.proofs.Rows.{eqb-same}
use Rattle.dp_tree.proofs.Nodes.{none-or-some, node-le, last-new}
use Rattle.dp_tree.proofs.Losses.{is_under, below-stays}

-- a node above another is there, and has the smaller number
pub under-known : (root : Seat) (past : List Event) (g i : ℕ) → Accepted root past → is_under past g i ≡ true → (g ≤ newest past) × (g < i)
under-known root [] g i a h = absurd cc
under-known root (Ask q n c ∷ past) g i a h = let ih = under-known root past g i a.0 h in (omega (arith, ih.0, a.1), ih.1)
under-known root (Open q n seat m ∷ past) g i a h = go (under-known root past g n a.0) (under-known root past g i a.0) (eqb_tells q i)
  where
    go : (is_under past g n ≡ true → (g ≤ newest past) × (g < n)) → (is_under past g i ≡ true → (g ≤ newest past) × (g < i)) →
        ((eqb q i ≡ true) × (q ≡ i)) ⊎ ((eqb q i ≡ false) × (q ≢ i)) → (g ≤ q) × (g < i)
    go up ih (inl k) =
        let there = none-or-some (node_at root past n) a.2 in
        let known = node-le root past n there.0 a.0 there.1 in
        let below : (eqb n g || is_under past g n) ≡ true = rw k.0 at h in
        elim (eqb_tells n g) [
          | inl e ↦ (omega (arith, e.1, known, a.1), omega (arith, e.1, known, a.1, k.1))
          | inr e ↦ let rest = up (rw e.0 at below) in (omega (arith, rest.0, a.1), omega (arith, rest.1, known, a.1, k.1))
        ]
    go up ih (inr k) = let rest = ih (rw k.0 at h) in (omega (arith, rest.0, a.1), rest.1)

-- a node is on its own path
pub itself-below : (past : List Event) (i : ℕ) → is_below past i i ≡ true
itself-below past i = rw (eqb-same i) refl

either : (b c : Bool) → c ≡ true → (b || c) ≡ true
either true c h = refl
either false c h = h

-- one of two nodes stands below the other
abbrev pub AreComparable : List Event → ℕ → ℕ → Type 0
AreComparable past i g = (is_below past i g ≡ true) ⊎ (is_below past g i ≡ true)

comparable-more : (past : List Event) (e : Event) (i g : ℕ) → newest past < number_of e → i ≤ newest past → g ≤ newest past →
    AreComparable past i g → AreComparable (e ∷ past) i g
comparable-more past e i g later known there (inl h) = inl (below-stays past e i g later there ∙ h)
comparable-more past e i g later known there (inr h) = inr (below-stays past e g i later known ∙ h)

-- a node on the path to one that is there is there
below-known : (root : Seat) (past : List Event) (i t : ℕ) → Accepted root past → t ≤ newest past → is_below past i t ≡ true →
    i ≤ newest past
below-known root past i t a l h = elim (eqb_tells t i) [
  | inl e ↦ omega (arith, e.1, l)
  | inr e ↦ (under-known root past i t a (rw e.0 at h)).0
]

comparable-open : (root : Seat) (past : List Event) (q n m : ℕ) (seat : Seat) (t i g : ℕ) →
    Accepted root (Open q n seat m ∷ past) →
    ((s : ℕ) → is_below past i s ≡ true → is_below past g s ≡ true → AreComparable past i g) →
    is_under (Open q n seat m ∷ past) i t ≡ true → is_under (Open q n seat m ∷ past) g t ≡ true →
    AreComparable (Open q n seat m ∷ past) i g
comparable-open root past q n m seat t i g a ih h k = elim (eqb_tells q t) [
  | inl e ↦
      let there = none-or-some (node_at root past n) a.2 in
      let known = node-le root past n there.0 a.0 there.1 in
      let first : is_below past i n ≡ true = rw e.0 at h in
      let second : is_below past g n ≡ true = rw e.0 at k in
      comparable-more past (Open q n seat m) i g a.1
      (below-known root past i n a.0 known first) (below-known root past g n a.0 known second) (ih n first second)
  | inr e ↦
      let first : is_under past i t ≡ true = rw e.0 at h in
      let second : is_under past g t ≡ true = rw e.0 at k in
      comparable-more past (Open q n seat m) i g a.1 (under-known root past i t a.0 first).0 (under-known root past g t a.0 second).0
      (ih t (either (eqb t i) (is_under past i t) first) (either (eqb t g) (is_under past g t) second))
]

-- of two nodes on the path to a third, one stands below the other
pub comparable : (root : Seat) (past : List Event) (t i g : ℕ) → Accepted root past → is_below past i t ≡ true →
    is_below past g t ≡ true → AreComparable past i g
comparable root [] t i g a h k =
    let first : t ≡ i = grind (arith, nat_tests, h) in
    let second : t ≡ g = grind (arith, nat_tests, k) in
    let same : g ≡ i = sym second ∙ first in
    inl (subst (λ n. is_below [] i n ≡ true) (sym same) (itself-below [] i))
comparable root (Ask q n c ∷ past) t i g a h k = comparable root past t i g a.0 h k
comparable root (Open q n seat m ∷ past) t i g a h k = go (λ s. comparable root past s i g a.0)
  where
    go : ((s : ℕ) → is_below past i s ≡ true → is_below past g s ≡ true → AreComparable past i g) →
        AreComparable (Open q n seat m ∷ past) i g
    go ih = elim (eqb_tells t i) [
      | inl e ↦ inr (subst (λ x. is_below (Open q n seat m ∷ past) g x ≡ true) e.1 k)
      | inr e ↦ elim (eqb_tells t g) [
        | inl f ↦ inl (subst (λ x. is_below (Open q n seat m ∷ past) i x ≡ true) f.1 h)
        | inr f ↦ comparable-open root past q n m seat t i g a ih (rw e.0 at h) (rw f.0 at k)
      ]
    ]

-- a choice that is nothing took its second part, which is nothing
second-part : {A : Type 0} (test : Bool) (a : A) (o : Option A) → cond test (Some a) o ≡ None → (test ≡ false) × (o ≡ None)
second-part true a o h = absurd cc
second-part false a o h = (refl, h)

-- no query after number i was addressed to any of the nodes
pub later-none : (last : ℕ → ℕ) (i : ℕ) (gs : List ℕ) (g : ℕ) → nearest_later (λ n. n) last i gs ≡ None →
    list_any (λ above. eqb above g) gs ≡ true → last g ≤ i
later-none last i [] g h k = absurd cc
later-none last i (x ∷ gs) g h k =
    let parts = second-part (ltb i (last x)) _ (nearest_later (λ n. n) last i gs) h in
    elim (eqb_tells x g) [
      | inl e ↦ let low : last x ≤ i = grind (arith, nat_tests, parts.0) in let same = ap last e.1 in omega (arith, low, same)
      | inr e ↦ later-none last i gs g parts.1 (rw e.0 at k)
    ]

-- nor was one in a shorter history
later-fewer : (late last : ℕ → ℕ) (i : ℕ) (gs : List ℕ) → ((g : ℕ) → last g ≤ late g) → nearest_later (λ n. n) late i gs ≡ None →
    nearest_later (λ n. n) last i gs ≡ None
later-fewer late last i [] less h = refl
later-fewer late last i (x ∷ gs) less h =
    let parts = second-part (ltb i (late x)) _ (nearest_later (λ n. n) late i gs) h in
    let low = less x in
    let none : ltb i (last x) ≡ false = grind (arith, nat_tests, parts.0, low) in
    rw none (later-fewer late last i gs less parts.1)

last-fewer : (past : List Event) (e : Event) (g : ℕ) → last_at past g ≤ last_at (e ∷ past) g
last-fewer past e g = elim (eqb_tells (node_of e) g) [
  | inl h ↦ rw h.0 (omega arith)
  | inr h ↦ rw h.0 (omega arith)
]

-- a node that may be asked is there, and no later query was addressed to a node above it
pub free-node : (root : Seat) (past : List Event) (i : ℕ) → find_fault false root past i ≡ None →
    (node : Node) × (node_at root past i ≡ Some node) × (frozen past i ≡ None)
free-node root past i h = go (node_at root past i) refl h
  where
    go : (o : Option Node) → node_at root past i ≡ o → fault_of_node false past i o ≡ None →
        (node : Node) × (node_at root past i ≡ Some node) × (frozen past i ≡ None)
    go None e h = absurd cc
    go (Some node) e h = (node, e, h)

-- a node that a query did not open was as it is
pub not-opened : (root : Seat) (past : List Event) (e : Event) (i : ℕ) → opens e i ≡ false →
    (node_at root (e ∷ past) i ≡ node_at root past i) × (ancestors (e ∷ past) i ≡ ancestors past i)
not-opened root past (Ask q n c) i h = (refl, refl)
not-opened root past (Open q n seat m) i h = (rw h refl, rw h refl)

-- a node that is not frozen after a query was not frozen before, unless the query opened it, and does not stand below its node
pub free-before : (root : Seat) (past : List Event) (e : Event) (i : ℕ) → Accepted root (e ∷ past) → opens e i ≡ false →
    find_fault false root (e ∷ past) i ≡ None → (find_fault false root past i ≡ None) × (is_under past (node_of e) i ≡ false)
free-before root past e i a other h =
    let free = free-node root (e ∷ past) i h in
    let was = not-opened root past e i other in
    let there : node_at root past i ≡ Some free.0 = sym was.0 ∙ free.1 in
    let above : nearest_later (λ n. n) (last_at (e ∷ past)) i (ancestors past i) ≡ None
    = ap (nearest_later (λ n. n) (last_at (e ∷ past)) i) (sym was.1) ∙ free.2 in
    let known = node-le root past i free.0 a.0 there in
    let before = later-fewer (last_at (e ∷ past)) (last_at past) i (ancestors past i) (last-fewer past e) above in
    (free-then root past i free.0 there before, not-under root past e i a known above (is_under past (node_of e) i) refl)
  where
    free-then : (root : Seat) (past : List Event) (i : ℕ) (node : Node) → node_at root past i ≡ Some node → frozen past i ≡ None →
        find_fault false root past i ≡ None
    free-then root past i node h k = rw h k

    not-under : (root : Seat) (past : List Event) (e : Event) (i : ℕ) → Accepted root (e ∷ past) → i ≤ newest past →
        nearest_later (λ n. n) (last_at (e ∷ past)) i (ancestors past i) ≡ None → (b : Bool) → is_under past (node_of e) i ≡ b →
        is_under past (node_of e) i ≡ false
    not-under root past e i a known above false same = same
    not-under root past e i a known above true same =
        let low = later-none (last_at (e ∷ past)) i (ancestors past i) (node_of e) above same in
        let new = last-new root past e a.0 a.1 in
        absurd (omega (arith, low, new, known, a.1))

-- the node that ends the path of the nodes that are not frozen
abbrev pub tip : List Event → ℕ
tip [] = 0
tip (Ask _ node _ ∷ past) = node
tip (Open number _ _ _ ∷ past) = number

-- each node that is not frozen is on the path to the tip
abbrev pub OnePath : Seat → List Event → Type 0
OnePath root past = (i : ℕ) → find_fault false root past i ≡ None → is_below past i (tip past) ≡ true

path-step : (root : Seat) (past : List Event) (e : Event) (i : ℕ) → Accepted root (e ∷ past) → OnePath root past →
    find_fault false root past (node_of e) ≡ None → find_fault false root (e ∷ past) i ≡ None →
    (is_below past i (node_of e) ≡ true) ⊎ (opens e i ≡ true)
path-step root past e i a path found free = go (opens e i) refl
  where
    beside : is_under past (node_of e) i ≡ false → AreComparable past i (node_of e) → is_below past i (node_of e) ≡ true
    beside other (inl h) = h
    beside other (inr h) =
        let same : i ≡ node_of e = elim (eqb_tells i (node_of e)) [
          | inl k ↦ k.1
          | inr k ↦ let under : is_under past (node_of e) i ≡ true = rw k.0 at h in absurd cc
        ] in
        subst (λ n. is_below past i n ≡ true) same (itself-below past i)

    go : (b : Bool) → opens e i ≡ b → (is_below past i (node_of e) ≡ true) ⊎ (opens e i ≡ true)
    go true h = inr h
    go false h =
        let before = free-before root past e i a h free in
        inl (beside before.1 (comparable root past (tip past) i (node_of e) a.0 (path i before.0) (path (node_of e) found)))

pub one-path : (root : Seat) (past : List Event) → Accepted root past → AllFound root past → OnePath root past
one-path root [] a f i free =
    let node = free-node root [] i free in
    elim (eqb_tells i 0) [
      | inl k ↦ rw k.1 (itself-below [] 0)
      | inr k ↦ absurd (let none = rw k.0 at node.1 in cc)
    ]
one-path root (Ask q n c ∷ past) a f i free =
    elim (path-step root past (Ask q n c) i a (one-path root past a.0 f.0) f.1 free) [
      | inl h ↦ h
      | inr h ↦ absurd cc
    ]
one-path root (Open q n seat m ∷ past) a f i free =
    elim (path-step root past (Open q n seat m) i a (one-path root past a.0 f.0) f.1 free) [
      | inl h ↦ either (eqb q i) (is_under (Open q n seat m ∷ past) i q) (rw (eqb-same q) h)
      | inr h ↦ rw h refl
    ]

pub path-law : PathLaw
path-law root past e i a f free = path-step root past e i a (one-path root past a.0 f.0) f.1 free

pub free-law : FreeLaw
free-law root past e i a f free = elim (path-law root past e i a f free) [
  | inl h ↦ inl (elim (eqb_tells (node_of e) i) [
    | inl k ↦ omega (arith, k.1)
    | inr k ↦ let known = under-known root past i (node_of e) a.0 (rw k.0 at h) in omega (arith, known.1)
  ])
  | inr h ↦ inr h
]
