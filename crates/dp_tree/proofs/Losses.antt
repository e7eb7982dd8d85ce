-- The asks at a node and below it cost no more than the node has spent.
use Rattle.std.proofs.Common.{◌≡◌, ℕ, zero, suc, ◌+◌, ◌≤◌, ◌<◌, Bool, true, false, cond, ◌||◌, ◌&&◌, Some, inl, inr, List, [], ◌∷◌, refl, sym, ◌∙◌, ap, subst, arith, eqb}
use Rattle.std.specs.Prelude.{IsSome, Contains}
use Rattle.std.specs.List.{sum_by, list_any}
use Rattle.std.proofs.lemmas.Bool.Decides.{nat_tests, eqb_tells}
use Rattle.std.proofs.lemmas.List.Sums.{sum_by-cons, sum_by-le-sum_by}
use Rattle.dp_domain.proofs.Occurrences.{sum_by-same, sum_by-add, sum_by-zero}
use Rattle.dp_budget.specs.Rules.{declared}
use Rattle.dp_tree.specs.History.{Seat, Node, Event, Ask, Open, node_at, ancestors, newest, number_of, node_of, cost_of, total, Accepted}
use Rattle.dp_tree.specs.Losses.{is_below, ask_cost, DeclaresAll, LossesLaw, RootLossesLaw}
use Rattle.dp_tree.proofs.Rows.{eqb-other}
use Rattle.dp_tree.proofs.Nodes.{none-or-some, node-le}
use Rattle.dp_tree.proofs.Accounts.{one-of, node-stays, child-law}

-- a sum of terms of which each that stands in the list is smaller
pub sum-le-where : {X : Type 0} (f g : X → ℕ) (xs : List X) → ((x : X) → Contains xs x → f x ≤ g x) → sum_by f xs ≤ sum_by g xs
sum-le-where f g [] h = omega arith
sum-le-where f g (x ∷ xs) h =
    let left = sum_by-cons f x xs in
    let right = sum_by-cons g x xs in
    let first = h x (0, omega arith, refl) in
    let rest = sum-le-where f g xs (λ y (k, l, e). h y (suc k, omega (arith, l), e)) in
    omega (arith, left, right, first, rest)

-- a term that stands in the list is within the sum
pub term-le-sum : {X : Type 0} (f : X → ℕ) (xs : List X) (x : X) → Contains xs x → f x ≤ sum_by f xs
term-le-sum f [] x (k, l, e) = absurd (omega (arith, l))
term-le-sum f (y ∷ xs) x (zero, l, e) = let whole = sum_by-cons f y xs in let same = ap f e in omega (arith, whole, same)
term-le-sum f (y ∷ xs) x (suc k, l, e) =
    let whole = sum_by-cons f y xs in
    let rest = term-le-sum f xs x (k, omega (arith, l), e) in
    omega (arith, whole, rest)

-- a sum of sums may be taken in either order
pub sum-swap : {X Y : Type 0} (f : X → Y → ℕ) (xs : List X) (ys : List Y) →
    sum_by (λ x. sum_by (λ y. f x y) ys) xs ≡ sum_by (λ y. sum_by (λ x. f x y) xs) ys
sum-swap {X} {Y} f [] ys = sym (sum_by-zero ys)
sum-swap f (x ∷ xs) ys =
    let whole = sum_by-cons (λ z. sum_by (λ y. f z y) ys) x xs in
    let ih = sum-swap f xs ys in
    let apart = sum_by-add (λ y. f x y) (λ y. sum_by (λ z. f z y) xs) ys in
    let joined : sum_by (λ y. sum_by (λ z. f z y) (x ∷ xs)) ys ≡ sum_by (λ y. f x y + sum_by (λ z. f z y) xs) ys
    = sum_by-same (λ y. sum_by (λ z. f z y) (x ∷ xs)) (λ y. f x y + sum_by (λ z. f z y) xs) ys (λ y. sum_by-cons (λ z. f z y) x xs) in
    omega (arith, whole, ih, apart, joined)

-- some node above is node i
abbrev pub is_under : List Event → ℕ → ℕ → Bool
is_under past i j = list_any (λ above. eqb above i) (ancestors past j)

-- what an open costs, and nothing for an ask
abbrev pub open_cost : Event → ℕ
open_cost (Ask _ _ _) = 0
open_cost (Open _ _ seat _) = total seat.rule

-- the open made node j, below a node of the test
abbrev pub opened_below : (ℕ → Bool) → Event → ℕ → Bool
opened_below at (Ask _ _ _) j = false
opened_below at (Open q n _ _) j = at n && eqb j q

-- what is above a node stays
pub ancestors-stay : (past : List Event) (e : Event) (i : ℕ) → newest past < number_of e → i ≤ newest past →
    ancestors (e ∷ past) i ≡ ancestors past i
ancestors-stay past (Ask q n c) i h l = refl
ancestors-stay past (Open q n seat m) i h l = rw (eqb-other q i (λ k. omega (arith, k, l, h))) refl

pub below-stays : (past : List Event) (e : Event) (i j : ℕ) → newest past < number_of e → j ≤ newest past →
    is_below (e ∷ past) i j ≡ is_below past i j
below-stays past e i j h l = ap (λ above. eqb j i || list_any (λ g. eqb g i) above) (ancestors-stay past e j h l)

-- the node of a query is there
pub event-node : (root : Seat) (past : List Event) (o : Event) → Accepted root past → Contains past o →
    (node : Node) × (node_at root past (node_of o) ≡ Some node)
event-node root [] o a (k, l, h) = absurd (omega (arith, l))
event-node root (e ∷ past) o a h = elim (one-of e past o h) [
  | inl same ↦
      let there = none-or-some (node_at root past (node_of e)) a.2 in
      let stays = node-stays root past e (node_of e) there.0 a there.1 in
      (there.0, subst (λ (x : Event). node_at root (e ∷ past) (node_of x) ≡ Some there.0) same stays)
  | inr older ↦
      let there = event-node root past o a.0 older in
      (there.0, node-stays root past e (node_of o) there.0 a there.1)
]

contains-more : (e : Event) (past : List Event) (o : Event) → Contains past o → Contains (e ∷ past) o
contains-more e past o (k, l, h) = (suc k, omega (arith, l), h)

opened-more : (past : List Event) (e : Event) (i j : ℕ) (o : Event) → newest past < number_of e → node_of o ≤ newest past →
    opened_below (is_below past i) o j ≡ true → opened_below (is_below (e ∷ past) i) o j ≡ true
opened-more past e i j (Ask q n c) h l k = absurd cc
opened-more past e i j (Open q n seat m) h l k = ap (λ b. b && eqb j q) (below-stays past e i n h l) ∙ k

and-true : (b c : Bool) → b ≡ true → c ≡ true → (b && c) ≡ true
and-true b c h k = rw (h, k) refl

-- the open that made a node which stands below another
pub opened-by : (root : Seat) (past : List Event) (i j : ℕ) → Accepted root past → is_under past i j ≡ true →
    (o : Event) × Contains past o × (opened_below (is_below past i) o j ≡ true)
opened-by root [] i j a h = absurd cc
opened-by root (Ask q n c ∷ past) i j a h =
    let made = opened-by root past i j a.0 h in
    (made.0, contains-more (Ask q n c) past made.0 made.1, opened-same made.0 made.2)
  where
    opened-same : (o : Event) → opened_below (is_below past i) o j ≡ true → opened_below (is_below (Ask q n c ∷ past) i) o j ≡ true
    opened-same o k = k
opened-by root (Open q n seat m ∷ past) i j a h = go (opened-by root past i j a.0) (eqb q j) refl
  where
    go : (is_under past i j ≡ true → (o : Event) × Contains past o × (opened_below (is_below past i) o j ≡ true)) →
        (test : Bool) → eqb q j ≡ test →
        (o : Event) × Contains (Open q n seat m ∷ past) o × (opened_below (is_below (Open q n seat m ∷ past) i) o j ≡ true)
    go ih true same =
        let there = none-or-some (node_at root past n) a.2 in
        let known = node-le root past n there.0 a.0 there.1 in
        let below : is_below past i n ≡ true = rw same at h in
        let stays = below-stays past (Open q n seat m) i n a.1 known in
        let number : eqb j q ≡ true = grind (arith, nat_tests, same) in
        (Open q n seat m, (0, omega arith, refl), and-true (is_below (Open q n seat m ∷ past) i n) (eqb j q) (stays ∙ below) number)
    go ih false other =
        let older : is_under past i j ≡ true = rw other at h in
        let made = ih older in
        let there = event-node root past made.0 a.0 made.1 in
        let known = node-le root past (node_of made.0) there.0 a.0 there.1 in
        (made.0, contains-more (Open q n seat m) past made.0 made.1, opened-more past (Open q n seat m) i j made.0 a.1 known made.2)

-- each open's child declares its most
declares-open : (past : List Event) (q n m : ℕ) (seat : Seat) → DeclaresAll past → Contains past (Open q n seat m) →
    IsSome (declared seat.rule)
declares-open [] q n m seat d (k, l, h) = absurd (omega (arith, l))
declares-open (e ∷ past) q n m seat d h = elim (one-of e past (Open q n seat m) h) [
  | inl same ↦ (let all = subst (λ (x : Event). DeclaresAll (x ∷ past)) same d in all.1)
  | inr older ↦ declares-open past q n m seat (declares-rest e past d) older
]
  where
    declares-rest : (e : Event) (past : List Event) → DeclaresAll (e ∷ past) → DeclaresAll past
    declares-rest (Ask _ _ _) past d = d
    declares-rest (Open _ _ _ _) past d = d.0

-- what a query costs where its node meets the test, and nothing where it does not
abbrev pub cost_where : (ℕ → Bool) → (Event → ℕ) → Event → ℕ
cost_where at cost e = cond (at (node_of e)) (cost e) 0

-- what a query costs where the other opened its node, below a node of the test
abbrev pub cost_below : (ℕ → Bool) → Event → Event → ℕ
cost_below at e o = cond (opened_below at o (node_of e)) (cost_of e) 0

-- a query below node i has a node that an open made, at node i or below it
below-opened : (root : Seat) (past : List Event) (i : ℕ) (e : Event) → Accepted root past →
    cost_where (is_under past i) cost_of e ≤ sum_by (cost_below (is_below past i) e) past
below-opened root past i e a = go (is_under past i (node_of e)) refl
  where
    go : (b : Bool) → is_under past i (node_of e) ≡ b → cond b (cost_of e) 0 ≤ sum_by (cost_below (is_below past i) e) past
    go false h = omega arith
    go true h =
        let made = opened-by root past i (node_of e) a h in
        let term = term-le-sum (cost_below (is_below past i) e) past made.0 made.1 in
        rw made.2 at term

-- the queries at an opened node cost no more than its open
spent-opened : (root : Seat) (past : List Event) (at : ℕ → Bool) (o : Event) → Accepted root past → DeclaresAll past → Contains past o →
    sum_by (λ e. cost_below at e o) past ≤ cost_where at open_cost o
spent-opened root past at (Ask q n c) a d h = let none = sum_by-zero past in omega (arith, none)
spent-opened root past at (Open q n seat m) a d h = go (at n)
  where
    go : (b : Bool) → sum_by (λ e. cond (b && eqb (node_of e) q) (cost_of e) 0) past ≤ cond b (total seat.rule) 0
    go true = child-law root past q n m seat a h (declares-open past q n m seat d h)
    go false = let none = sum_by-zero past in omega (arith, none)

-- the queries below a node cost no more than the opens at it and below it
under-le : (root : Seat) (past : List Event) (i : ℕ) → Accepted root past → DeclaresAll past →
    sum_by (cost_where (is_under past i) cost_of) past ≤ sum_by (cost_where (is_below past i) open_cost) past
under-le root past i a d =
    let at : ℕ → Bool = is_below past i in
    let spread = sum_by-le-sum_by (cost_where (is_under past i) cost_of) (λ e. sum_by (cost_below at e) past) past (λ e. below-opened root past i e a) in
    let swapped = sum-swap (cost_below at) past past in
    let within = sum-le-where (λ o. sum_by (λ e. cost_below at e o) past) (cost_where at open_cost) past (λ o h. spent-opened root past at o a d h) in
    omega (arith, spread, swapped, within)

-- a cost is that of an ask or of an open
cost-split : (b : Bool) (e : Event) → cond b (cost_of e) 0 ≡ cond b (ask_cost e) 0 + cond b (open_cost e) 0
cost-split true (Ask _ _ c) = omega arith
cost-split true (Open _ _ seat _) = omega arith
cost-split false e = omega arith

-- at or below a node is at it or below it
either-le : (a b : Bool) (c : ℕ) → cond (a || b) c 0 ≤ cond a c 0 + cond b c 0
either-le true b c = omega arith
either-le false b c = omega arith

pub losses-law : LossesLaw
losses-law root past i a d =
    let at : ℕ → Bool = is_below past i in
    let here : ℕ → Bool = λ j. eqb j i in
    let under : ℕ → Bool = is_under past i in
    let split = sum_by-same (cost_where at cost_of) (λ e. cost_where at ask_cost e + cost_where at open_cost e) past (λ e. cost-split (at (node_of e)) e) in
    let apart = sum_by-add (cost_where at ask_cost) (cost_where at open_cost) past in
    let either = sum_by-le-sum_by (cost_where at cost_of) (λ e. cost_where here cost_of e + cost_where under cost_of e) past
    (λ e. either-le (here (node_of e)) (under (node_of e)) (cost_of e)) in
    let joined = sum_by-add (cost_where here cost_of) (cost_where under cost_of) past in
    let below = under-le root past i a d in
    omega (arith, split, apart, either, joined, below)

or-true : (b c : Bool) → c ≡ true → (b || c) ≡ true
or-true true c h = refl
or-true false c h = h

-- every node is the root or below it
pub root-above : (root : Seat) (past : List Event) (i : ℕ) (node : Node) → Accepted root past → node_at root past i ≡ Some node →
    is_below past 0 i ≡ true
root-above root [] i node a h = elim (eqb_tells i 0) [
  | inl k ↦ rw k.0 refl
  | inr k ↦ absurd (let e = rw k.0 at h in cc)
]
root-above root (Ask q n c ∷ past) i node a h = root-above root past i node a.0 h
root-above root (Open q n seat m ∷ past) i node a h = elim (eqb_tells q i) [
  | inl k ↦
      let there = none-or-some (node_at root past n) a.2 in
      rw k.0 (or-true (eqb i 0) (is_below past 0 n) (root-above root past n there.0 a.0 there.1))
  | inr k ↦ let older : node_at root past i ≡ Some node = rw k.0 at h in rw k.0 (root-above root past i node a.0 older)
]

pub root-losses-law : RootLossesLaw
root-losses-law root past a d =
    let all = sum-le-where ask_cost (cost_where (is_below past 0) ask_cost) past (below-root root past a) in
    let within = losses-law root past 0 a d in
    omega (arith, all, within)
  where
    below-root : (root : Seat) (past : List Event) → Accepted root past → (e : Event) → Contains past e → ask_cost e ≤ cost_where (is_below past 0) ask_cost e
    below-root root past a e h =
        let there = event-node root past e a h in
        let below = root-above root past (node_of e) there.0 a there.1 in
        rw below (omega arith)
