-- Which nodes may be asked after one query more: those that might be before and that the query does not freeze, and the one
-- that it opened.
use Rattle.std.proofs.Common.{◌≡◌, ◌≢◌, ◌≤◌, ◌<◌, ℕ, ◌||◌, Bool, true, false, cond, Option, Some, None, inl, inr, List, [], ◌∷◌, refl, ◌∙◌, ap, arith, eqb, ltb, option_map}
use Rattle.std.specs.Prelude.{nat_le}
use Rattle.std.specs.List.{list_any}
use Rattle.std.proofs.lemmas.Bool.Decides.{nat_tests, eqb_tells}
use Rattle.dp_domain.specs.declared.values.Value.{Value}
use Rattle.dp_tree.specs.declared.faults.FindFault.{FindFault}
use Rattle.dp_tree.specs.History.{Seat, Node, Event, Ask, Open, child, node_at, ancestors, node_of, last_at, nearest_later, frozen, fault_of_node, find_fault, Accepted}
use Rattle.dp_tree.specs.Losses.{AllFound, opens}
use Rattle.dp_tree.proofs.Freezing.{under-known, free-node, free-before, not-opened, free-law}
use Rattle.dp_tree.proofs.Losses.{is_under}
use Rattle.dp_tree.proofs.Nodes.{none-or-some, last-le}
use Rattle.dp_tree.proofs.Rows.{eqb-same, eqb-other}
use Rattle.dp_session.specs.Sessions.{unless_fault}
use Rattle.dp_session.specs.Values.{staying}

-- a choice that is nothing took its second part, which is nothing
second-part : {A : Type 0} (test : Bool) (a : A) (o : Option A) → cond test (Some a) o ≡ None → (test ≡ false) × (o ≡ None)
second-part true a o h = absurd cc
second-part false a o h = (refl, h)

-- no query after number i was addressed to the nodes, where each has the same last query
later-same : (late last : ℕ → ℕ) (i : ℕ) (gs : List ℕ) → ((g : ℕ) → list_any (λ above. eqb above g) gs ≡ true → late g ≡ last g)
    → nearest_later (λ n. n) last i gs ≡ None → nearest_later (λ n. n) late i gs ≡ None
later-same late last i [] same h = refl
later-same late last i (x ∷ gs) same h =
    let parts = second-part (ltb i (last x)) _ (nearest_later (λ n. n) last i gs) h in
    let here : late x ≡ last x = same x (rw (eqb-same x) refl) in
    let none : ltb i (late x) ≡ false = rw here parts.0 in
    rw none (later-same late last i gs (λ g k. same g (or-right (eqb x g) _ k)) parts.1)
  where
    or-right : (b c : Bool) → c ≡ true → (b || c) ≡ true
    or-right true c h = refl
    or-right false c h = h

-- nor where none has a later last query
later-low : (late : ℕ → ℕ) (i : ℕ) (gs : List ℕ) → ((g : ℕ) → late g ≤ i) → nearest_later (λ n. n) late i gs ≡ None
later-low late i [] low = refl
later-low late i (x ∷ gs) low =
    let l = low x in
    let none : ltb i (late x) ≡ false = grind (arith, nat_tests, l) in
    rw none (later-low late i gs low)

free-if : (past : List Event) (i : ℕ) (o : Option Node) (node : Node) → o ≡ Some node → frozen past i ≡ None → fault_of_node false past i o ≡ None
free-if past i o node e h = rw (e, h) refl

-- a node that may be asked stays so after a query to it or to a later one
free-stays : (root : Seat) (past : List Event) (e : Event) (i : ℕ) → Accepted root (e ∷ past) → opens e i ≡ false → find_fault false root past i ≡ None
    → i ≤ node_of e → find_fault false root (e ∷ past) i ≡ None
free-stays root past e i a other h early =
    let free = free-node root past i h in
    let was = not-opened root past e i other in
    let same = λ (g : ℕ) (k : is_under past g i ≡ true). last-same g (under-known root past g i a.0 k).1 in
    let none : nearest_later (λ n. n) (last_at (e ∷ past)) i (ancestors past i) ≡ None = later-same (last_at (e ∷ past)) (last_at past) i (ancestors past i) same free.2 in
    let above : frozen (e ∷ past) i ≡ None = ap (nearest_later (λ n. n) (last_at (e ∷ past)) i) was.1 ∙ none in
    free-if (e ∷ past) i (node_at root (e ∷ past) i) free.0 (was.0 ∙ free.1) above
  where
    last-same : (g : ℕ) → g < i → last_at (e ∷ past) g ≡ last_at past g
    last-same g less = let other : node_of e ≢ g = omega arith in rw (eqb-other (node_of e) g other) refl

-- the node that a query opened may be asked
opened-free : (all : Bool) (root : Seat) (past : List Event) (e : Event) (i : ℕ) → Accepted root (e ∷ past) → opens e i ≡ true
    → find_fault all root (e ∷ past) i ≡ None
opened-free all root past (Ask q n c) i a h = absurd cc
opened-free all root past (Open q n seat m) i a h = go all
  where
    number : q ≡ i
    number = elim (eqb_tells q i) [ inl k ↦ k.1 | inr k ↦ let none = k.0 in absurd cc ]

    there : (node : Node) × (node_at root (Open q n seat m ∷ past) i ≡ Some node)
    there =
        let above = none-or-some (node_at root past n) a.2 in
        (child n seat above.0, rw h (ap (λ (o : Option Node). option_map (child n seat) o) above.1))

    low : (g : ℕ) → last_at (Open q n seat m ∷ past) g ≤ i
    low g = let l = last-le root (Open q n seat m ∷ past) g a in let same = number in omega (arith, l, same)

    open-if : (past : List Event) (o : Option Node) (node : Node) → o ≡ Some node → fault_of_node true past i o ≡ None
    open-if past o node e = rw e refl

    go : (b : Bool) → find_fault b root (Open q n seat m ∷ past) i ≡ None
    go true = open-if (Open q n seat m ∷ past) (node_at root (Open q n seat m ∷ past) i) there.0 there.1
    go false = free-if (Open q n seat m ∷ past) i (node_at root (Open q n seat m ∷ past) i) there.0 there.1
        (later-low (last_at (Open q n seat m ∷ past)) i (ancestors (Open q n seat m ∷ past) i) low)

pub fault-opened : (all : Bool) (root : Seat) (past : List Event) (e : Event) (i : ℕ) → Accepted root (e ∷ past) → opens e i ≡ true
    → find_fault all root (e ∷ past) i ≡ None
fault-opened all root past e i a h = opened-free all root past e i a h

-- where siblings stay open, a query that did not open a node changes nothing of it
open-same : (root : Seat) (past : List Event) (e : Event) (i : ℕ) → opens e i ≡ false → find_fault true root (e ∷ past) i ≡ find_fault true root past i
open-same root past e i other = go (node_at root (e ∷ past) i) (node_at root past i) (not-opened root past e i other).0
  where
    go : (o p : Option Node) → o ≡ p → fault_of_node true (e ∷ past) i o ≡ fault_of_node true past i p
    go None None h = refl
    go (Some node) (Some other) h = refl
    go None (Some node) h = absurd cc
    go (Some node) None h = absurd cc

-- a value of a node stays exactly where the node may be asked
pub value-stays : (all : Bool) (root : Seat) (past : List Event) (e : Event) (i : ℕ) (v : Value) → Accepted root (e ∷ past)
    → (all ≡ false → AllFound root (e ∷ past)) → opens e i ≡ false
    → unless_fault (find_fault all root (e ∷ past) i) v ≡ staying all (node_of e) i (unless_fault (find_fault all root past i) v)
value-stays true root past e i v a found other = ap (λ (f : Option FindFault). unless_fault f v) (open-same root past e i other)
value-stays false root past e i v a found other = go (find_fault false root (e ∷ past) i) refl (find_fault false root past i) refl (nat_le i (node_of e)) refl
  where
    late : (f : Option FindFault) → cond false (unless_fault f v) None ≡ None
    late f = refl

    early : find_fault false root (e ∷ past) i ≡ None → i ≤ node_of e
    early h = elim (free-law root past e i a (found refl) h) [ inl k ↦ k | inr k ↦ absurd cc ]

    go : (after : Option FindFault) → find_fault false root (e ∷ past) i ≡ after → (before : Option FindFault) → find_fault false root past i ≡ before
        → (b : Bool) → nat_le i (node_of e) ≡ b → unless_fault after v ≡ cond b (unless_fault before v) None
    go None h None k true t = refl
    go None h None k false t = absurd (let l = early h in grind (arith, nat_tests, l))
    go None h (Some f) k b t = absurd (let was = (free-before root past e i a other h).0 in cc)
    go (Some f) h None k true t = absurd (let l : i ≤ node_of e = grind (arith, nat_tests) in let still = free-stays root past e i a other k l in cc)
    go (Some f) h None k false t = refl
    go (Some f) h (Some g) k true t = refl
    go (Some f) h (Some g) k false t = refl
