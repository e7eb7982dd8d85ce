-- What a node has spent is within its rule.
use Rattle.std.proofs.Common.{◌≡◌, ◌≢◌, ℕ, zero, suc, ◌+◌, ◌-◌, ◌*◌, ◌≤◌, ◌<◌, ◌^◌, Bool, true, false, cond, ◌||◌, Option, Some, None, ◌⊎◌, inl, inr, List, [], ◌∷◌, take, length, slice_index, is_some, refl, sym, ◌∙◌, ap, subst, arith, eqb, ltb, leb}
use Rattle.std.specs.Prelude.{IsSome, IfSome, Contains, sum}
use Rattle.std.proofs.lemmas.Bool.Decides.{nat_tests, eqb_tells}
use Rattle.std.specs.Option.{option_map}
use Rattle.std.proofs.lemmas.List.Sums.{sum_by_more, sum_by-take-le, get_or-le-sum_by}
use Rattle.dp_num.specs.Limits.{most_units}
use Rattle.dp_budget.specs.declared.budget.Rule.{Rule}
use Rattle.dp_budget.specs.declared.budget.Rule.TheVariants as rule
use Rattle.dp_budget.specs.Rules.{BudgetValue, declared, fresh, turn, refusal}
use Rattle.dp_tree.specs.History.{Seat, Node, Event, Ask, Open, node_at, root_node, child, node_of, cost_of, total, declared_or_zero, spent, queries, account, over_at, Accepted}
use Rattle.dp_tree.specs.Losses.{DeclaredLaw, ChildLaw, RootSpentLaw, MostSpentLaw}
use Rattle.dp_tree.proofs.Rows.{chosen, eqb-same}
use Rattle.dp_tree.proofs.Nodes.{made, none-or-some, node-le, node-kept}
use Rattle.dp_tree.proofs.Standing.{account-here, account-other, account-new}

-- what is spent, where so many mids are used, is within the rule
abbrev pub KeepsRule : Rule → ℕ → ℕ → Type 0
KeepsRule (rule.Compositor mids) s place = s ≤ sum (take place mids)
KeepsRule (rule.Filter limit) s place = s ≤ limit
KeepsRule rule.Odometer s place = s ≤ most_units

abbrev pub KeepsBudget : BudgetValue → Type 0
KeepsBudget b = KeepsRule b.rule b.spent b.place

keeps-fresh : (r : Rule) → KeepsBudget (fresh r)
keeps-fresh (rule.Compositor mids) = omega arith
keeps-fresh (rule.Filter limit) = omega arith
keeps-fresh rule.Odometer = omega arith

-- a choice that is nothing was not made
pub not-made : {A : Type 0} (test : Bool) (a : A) → cond test (Some a) None ≡ None → test ≡ false
not-made true a h = absurd cc
not-made false a h = refl

-- an admitted cost is within the next mid, or within what is left
admitted-mid : (mids : List ℕ) (place cost : ℕ) → (leb (length mids) place || ltb (slice_index mids place) cost) ≡ false →
    (place < length mids) × (cost ≤ slice_index mids place)
admitted-mid mids place cost h = (grind (arith, nat_tests), grind (arith, nat_tests))

admitted-left : (a b : ℕ) → (false || ltb a b) ≡ false → b ≤ a
admitted-left a b h = grind (arith, nat_tests)

-- an admitted cost keeps the budget within its rule
pub keeps-charged : (r : Rule) (s place cost : ℕ) → KeepsRule r s place →
    refusal (record { rule = r; spent = s; place = place }) cost ≡ None → KeepsRule r (s + cost) (place + turn r)
keeps-charged (rule.Compositor mids) s place cost k h =
    let admitted = admitted-mid mids place cost (not-made (leb (length mids) place || ltb (slice_index mids place) cost) _ h) in
    let more = sum_by_more (λ (m : ℕ). m) mids place 0 admitted.0 in
    omega (arith, k, admitted.1, more)
keeps-charged (rule.Filter limit) s place cost k h =
    let admitted = admitted-left (limit - s) cost (not-made (false || ltb (limit - s) cost) _ h) in
    omega (arith, k, admitted)
keeps-charged rule.Odometer s place cost k h =
    let admitted = admitted-left (most_units - s) cost (not-made (false || ltb (most_units - s) cost) _ h) in
    omega (arith, k, admitted)

-- the budget of a node is within its rule
after-event : (root : Seat) (past : List Event) (e : Event) (i : ℕ) (node : Node) → Accepted root (e ∷ past) →
    node_at root past i ≡ Some node → KeepsBudget (account past i node.seat.rule) →
    KeepsBudget (account (e ∷ past) i node.seat.rule)
after-event root past e i node a found k = elim (eqb_tells (node_of e) i) [
  | inl h ↦
      let within : refusal (account past i node.seat.rule) (cost_of e) ≡ None = admitted-at root past e i node a h.1 found in
      subst KeepsBudget (sym (account-here past e i node.seat.rule h.1))
      (keeps-charged node.seat.rule (spent past i) (queries past i * turn node.seat.rule) (cost_of e) k within)
  | inr h ↦ subst KeepsBudget (sym (account-other past e i node.seat.rule h.1)) k
]
  where
    admitted-at : (root : Seat) (past : List Event) (e : Event) (i : ℕ) (node : Node) → Accepted root (e ∷ past) → node_of e ≡ i →
        node_at root past i ≡ Some node → refusal (account past i node.seat.rule) (cost_of e) ≡ None
    admitted-at root past e i node a same found =
        let over : over_at root past i (cost_of e) ≡ None = subst (λ n. over_at root past n (cost_of e) ≡ None) same a.3 in
        rw found at over

pub keeps-node : (root : Seat) (past : List Event) (i : ℕ) (node : Node) → Accepted root past → node_at root past i ≡ Some node →
    KeepsBudget (account past i node.seat.rule)
keeps-node root [] i node a h = keeps-nothing node.seat.rule (0 * turn node.seat.rule)
  where
    keeps-nothing : (r : Rule) (place : ℕ) → KeepsRule r 0 place
    keeps-nothing (rule.Compositor mids) place = omega arith
    keeps-nothing (rule.Filter limit) place = omega arith
    keeps-nothing rule.Odometer place = omega arith
keeps-node root (Ask q n c ∷ past) i node a h = after-event root past (Ask q n c) i node a h (keeps-node root past i node a.0 h)
keeps-node root (Open q n seat m ∷ past) i node a h =
    elim (chosen (eqb q i) (option_map (child n seat) (node_at root past n)) (node_at root past i) node h) [
      | inl k ↦
          let above = made (child n seat) (node_at root past n) node k.1 in
          let known = node-le root past n above.0 a.0 above.1 in
          let new : q ≡ i = grind (arith, nat_tests, k.0) in
          let other : node_of (Open q n seat m) ≢ i = λ e. omega (arith, e, new, known, a.1) in
          let empty : account (Open q n seat m ∷ past) i node.seat.rule ≡ fresh node.seat.rule
          = account-other past (Open q n seat m) i node.seat.rule other
          ∙ account-new root past i node.seat.rule a.0 (omega (arith, new, a.1)) in
          subst KeepsBudget (sym empty) (keeps-fresh node.seat.rule)
      | inr k ↦ after-event root past (Open q n seat m) i node a k.1 (keeps-node root past i node a.0 k.1)
    ]

-- what is within the rule is within what it declares
within-declared : (r : Rule) (s place : ℕ) → KeepsRule r s place → IfSome (declared r) (λ most. s ≤ most)
within-declared (rule.Compositor mids) s place k = let part = sum_by-take-le (λ (m : ℕ). m) mids place in omega (arith, k, part)
within-declared (rule.Filter limit) s place k = k
within-declared rule.Odometer s place k = tt

pub declared-law : DeclaredLaw
declared-law root past i node a h =
    within-declared node.seat.rule (spent past i) (queries past i * turn node.seat.rule) (keeps-node root past i node a h)

-- the root is there
pub root-there : (root : Seat) (past : List Event) → Accepted root past → node_at root past 0 ≡ Some (root_node root)
root-there root [] a = refl
root-there root (Ask q n c ∷ past) a = root-there root past a.0
root-there root (Open q n seat m ∷ past) a =
    node-kept q n m root seat past 0 (λ e. omega (arith, e, a.1)) ∙ root-there root past a.0

pub root-spent-law : RootSpentLaw
root-spent-law root past a = declared-law root past 0 (root_node root) a (root-there root past a)

-- a query of a longer history is the new one or one of those before
pub one-of : (e : Event) (past : List Event) (o : Event) → Contains (e ∷ past) o → (e ≡ o) ⊎ Contains past o
one-of e past o (zero, l, h) = inl h
one-of e past o (suc k, l, h) = inr (k, omega (arith, l), h)

-- a node that a query addressed, or that was opened, stays what it is
pub node-stays : (root : Seat) (past : List Event) (e : Event) (i : ℕ) (node : Node) → Accepted root (e ∷ past) →
    node_at root past i ≡ Some node → node_at root (e ∷ past) i ≡ Some node
node-stays root past (Ask q n c) i node a h = h
node-stays root past (Open q n seat m) i node a h =
    let known = node-le root past i node a.0 h in
    node-kept q n m root seat past i (λ e. omega (arith, e, known, a.1)) ∙ h

-- what an open made
pub opened-node : (root : Seat) (past : List Event) (q n m : ℕ) (seat : Seat) → Accepted root past →
    Contains past (Open q n seat m) → (above : Node) × (node_at root past q ≡ Some (child n seat above))
opened-node root [] q n m seat a (k, l, h) = absurd (omega (arith, l))
opened-node root (e ∷ past) q n m seat a h = elim (one-of e past (Open q n seat m) h) [
  | inl same ↦
      let there : is_some (node_at root past n) ≡ true = subst (λ x. is_some (node_at root past (node_of x)) ≡ true) same a.2 in
      let above = none-or-some (node_at root past n) there in
      let made_last = made-last root past q n m seat above.0 above.1 in
      (above.0, subst (λ x. node_at root (x ∷ past) q ≡ Some (child n seat above.0)) (sym same) made_last)
  | inr older ↦
      let found = opened-node root past q n m seat a.0 older in
      (found.0, node-stays root past e q (child n seat found.0) a found.1)
]
  where
    made-last : (root : Seat) (past : List Event) (q n m : ℕ) (seat : Seat) (above : Node) → node_at root past n ≡ Some above →
        node_at root (Open q n seat m ∷ past) q ≡ Some (child n seat above)
    made-last root past q n m seat above h = rw (eqb-same q, h) refl

pub child-law : ChildLaw
child-law root past q n m seat a h d =
    let node = opened-node root past q n m seat a h in
    most-declared (declared seat.rule) (spent past q) d (declared-law root past q (child n seat node.0) a node.1)
  where
    most-declared : (o : Option ℕ) (s : ℕ) → IsSome o → IfSome o (λ most. s ≤ most) → s ≤ declared_or_zero o
    most-declared None s d h = absurd cc
    most-declared (Some most) s d h = h

-- a budget that declares at most 2^32 admits no more at once
admitted-most : (r : Rule) (s place cost : ℕ) → IfSome (declared r) (λ most. most ≤ 2 ^ 32) →
    refusal (record { rule = r; spent = s; place = place }) cost ≡ None → cost ≤ 2 ^ 32
admitted-most (rule.Compositor mids) s place cost k h =
    let admitted = admitted-mid mids place cost (not-made (leb (length mids) place || ltb (slice_index mids place) cost) _ h) in
    let part = get_or-le-sum_by (λ (m : ℕ). m) mids place 0 admitted.0 in
    omega (arith, k, admitted.1, part)
admitted-most (rule.Filter limit) s place cost k h =
    let admitted = admitted-left (limit - s) cost (not-made (false || ltb (limit - s) cost) _ h) in
    omega (arith, k, admitted)
admitted-most rule.Odometer s place cost _ h =
    let admitted = admitted-left (most_units - s) cost (not-made (false || ltb (most_units - s) cost) _ h) in
    omega (arith, admitted)

-- the node's budget declares at most 2^32, where it declares something
abbrev pub DeclaresMost : Node → Type 0
DeclaresMost node = IfSome (declared node.seat.rule) (λ most. most ≤ 2 ^ 32)

-- no node declares more than 2^32, where the root does not
pub node-most : (root : Seat) (past : List Event) (i : ℕ) (node : Node) → Accepted root past →
    IfSome (declared root.rule) (λ most. most ≤ 2 ^ 32) → node_at root past i ≡ Some node →
    IfSome (declared node.seat.rule) (λ most. most ≤ 2 ^ 32)
node-most root [] i node a r h = elim (chosen (eqb i 0) (Some (root_node root)) None node h) [
  | inl k ↦ let same : root_node root ≡ node = let e = k.1 in cc in subst DeclaresMost same r
  | inr k ↦ absurd (let e = k.1 in cc)
]
node-most root (Ask q n c ∷ past) i node a r h = node-most root past i node a.0 r h
node-most root (Open q n seat m ∷ past) i node a r h =
    elim (chosen (eqb q i) (option_map (child n seat) (node_at root past n)) (node_at root past i) node h) [
      | inl k ↦
          let above = made (child n seat) (node_at root past n) node k.1 in
          let over : refusal (account past n above.0.seat.rule) (total seat.rule) ≡ None = let w = a.3 in rw above.1 at w in
          let rule = above.0.seat.rule in
          let declares = node-most root past n above.0 a.0 r above.1 in
          let most = admitted-most rule (spent past n) (queries past n * turn rule) (total seat.rule) declares over in
          subst DeclaresMost (sym above.2) (cost-declared (declared seat.rule) most)
      | inr k ↦ node-most root past i node a.0 r k.1
    ]
  where
    cost-declared : (o : Option ℕ) → declared_or_zero o ≤ 2 ^ 32 → IfSome o (λ most. most ≤ 2 ^ 32)
    cost-declared None h = tt
    cost-declared (Some most) h = h

-- nothing was addressed to a number that is no node's
pub spent-none : (root : Seat) (past : List Event) (i : ℕ) → Accepted root past → node_at root past i ≡ None → spent past i ≡ 0
spent-none root [] i a h = refl
spent-none root (e ∷ past) i a h =
    let older : node_at root past i ≡ None = was-none root past e i (node_at root past i) refl a h in
    let there = none-or-some (node_at root past (node_of e)) a.2 in
    let at_node : node_of e ≡ i → node_at root past i ≡ Some there.0 = λ same. subst (λ n. node_at root past n ≡ Some there.0) same there.1 in
    let other : node_of e ≢ i = λ same. let x = at_node same in absurd cc in
    ap (λ (b : BudgetValue). b.spent) (account-other past e i root.rule other) ∙ spent-none root past i a.0 older
  where
    was-none : (root : Seat) (past : List Event) (e : Event) (i : ℕ) (o : Option Node) → node_at root past i ≡ o →
        Accepted root (e ∷ past) → node_at root (e ∷ past) i ≡ None → node_at root past i ≡ None
    was-none root past e i None same a h = same
    was-none root past e i (Some node) same a h = let x = node-stays root past e i node a same in absurd cc

pub most-spent-law : MostSpentLaw
most-spent-law root past i a r = go (node_at root past i) refl
  where
    within-most : (rl : Rule) (s place : ℕ) → KeepsRule rl s place → IfSome (declared rl) (λ most. most ≤ 2 ^ 32) → s ≤ 2 ^ 32
    within-most (rule.Compositor mids) s place k d = let part = sum_by-take-le (λ (m : ℕ). m) mids place in omega (arith, k, part, d)
    within-most (rule.Filter limit) s place k d = omega (arith, k, d)
    within-most rule.Odometer s place k d = k

    go : (o : Option Node) → node_at root past i ≡ o → spent past i ≤ 2 ^ 32
    go None h = let none = spent-none root past i a h in omega (arith, none)
    go (Some node) h =
        within-most node.seat.rule (spent past i) (queries past i * turn node.seat.rule)
        (keeps-node root past i node a h) (node-most root past i node a r h)
