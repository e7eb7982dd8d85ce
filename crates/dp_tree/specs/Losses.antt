-- What the queries of a history lose, and what its nodes spend.
use Rattle.std.specs.Prelude.{◌≡◌, ℕ, ◌≤◌, ◌^◌, ◌==◌, ◌||◌, ◌⊎◌, Bool, true, false, List, [], ◌∷◌}
use Rattle.std.specs.Prelude.{Some, None, if◌then◌else◌, IsSome, IfSome, Contains}
use Rattle.std.specs.List.{sum_by, list_any}
use Rattle.dp_domain.specs.declared.domains.Domain.{Domain}
use Rattle.dp_domain.specs.declared.metrics.Metric.{Metric}
use Rattle.dp_budget.specs.declared.budget.Rule.{Rule}
use Rattle.dp_budget.specs.declared.budget.Rule.TheVariants as rule
use Rattle.dp_budget.specs.Rules.{declared}
use Rattle.dp_tree.specs.History.{Seat, Node, Event, Ask, Open, node_of, total, node_at, ancestors, spent, find_fault}
use Rattle.dp_tree.specs.History.{Accepted}

-- node j is node i, or stands below it
abbrev pub is_below : List Event → ℕ → ℕ → Bool
is_below past i j = j == i || list_any (λ above. above == i) (ancestors past j)

-- what a query loses: the cost of an ask, and nothing at an open
abbrev pub ask_cost : Event → ℕ
ask_cost (Ask _ _ cost) = cost
ask_cost (Open _ _ _ _) = 0

-- the costs of the asks at node i and below it
abbrev pub losses_at : List Event → ℕ → ℕ
losses_at past i = sum_by (λ e. if is_below past i (node_of e) then ask_cost e else 0) past

-- the costs of all asks
abbrev pub all_losses : List Event → ℕ
all_losses past = sum_by ask_cost past

-- the budget of each child declares the most that it admits, so no child has an odometer
abbrev pub DeclaresAll : List Event → Type 0
DeclaresAll [] = Unit {0}
DeclaresAll (Ask _ _ _ ∷ past) = DeclaresAll past
DeclaresAll (Open _ _ seat _ ∷ past) = DeclaresAll past × IsSome (declared seat.rule)

-- the asks at a node and below it cost no more than the node has spent
abbrev pub LossesLaw : Type 0
LossesLaw = (root : Seat) (past : List Event) (i : ℕ) → Accepted root past → DeclaresAll past
    → losses_at past i ≤ spent past i

-- all asks cost no more than the root has spent
abbrev pub RootLossesLaw : Type 0
RootLossesLaw = (root : Seat) (past : List Event) → Accepted root past → DeclaresAll past
    → all_losses past ≤ spent past 0

-- a root that admits nothing, with a child of an odometer, at which one unit was asked
abbrev pub odometer_history : (Rule → Seat) → List Event
odometer_history seat = Ask 2 1 1 ∷ Open 1 0 (seat rule.Odometer) 0 ∷ []

-- without that premise the law would not hold: that history loses one unit, and its root has spent nothing
abbrev pub OdometerLaw : Type 0
OdometerLaw = (domain : Domain) (metric : Metric) (distance : ℕ) →
    let seat : Rule → Seat = λ r. record { domain = domain; metric = metric; distance = distance; rule = r } in
    Accepted (seat (rule.Filter 0)) (odometer_history seat)
    × (all_losses (odometer_history seat) ≡ 1) × (spent (odometer_history seat) 0 ≡ 0)

-- no node has spent more than its budget declares
abbrev pub DeclaredLaw : Type 0
DeclaredLaw = (root : Seat) (past : List Event) (i : ℕ) (node : Node) → Accepted root past
    → node_at root past i ≡ Some node → IfSome (declared node.seat.rule) (λ most. spent past i ≤ most)

-- a child has spent no more than its open cost
abbrev pub ChildLaw : Type 0
ChildLaw = (root : Seat) (past : List Event) (number node mapped : ℕ) (seat : Seat) → Accepted root past
    → Contains past (Open number node seat mapped) → IsSome (declared seat.rule)
    → spent past number ≤ total seat.rule

-- the root has spent no more than its budget declares
abbrev pub RootSpentLaw : Type 0
RootSpentLaw = (root : Seat) (past : List Event) → Accepted root past
    → IfSome (declared root.rule) (λ most. spent past 0 ≤ most)

-- no node has spent more than 2^32, where the root declares no more
abbrev pub MostSpentLaw : Type 0
MostSpentLaw = (root : Seat) (past : List Event) (i : ℕ) → Accepted root past
    → IfSome (declared root.rule) (λ most. most ≤ 2 ^ 32) → spent past i ≤ 2 ^ 32

-- each query was addressed to a node that no query before it had frozen
abbrev pub AllFound : Seat → List Event → Type 0
AllFound root [] = Unit {0}
AllFound root (e ∷ past) = AllFound root past × (find_fault false root past (node_of e) ≡ None)

-- the query opened node i
abbrev pub opens : Event → ℕ → Bool
opens (Ask _ _ _) i = false
opens (Open number _ _ _) i = number == i

-- of the nodes that are not frozen after a query, each is the query's node, stands above it, or was opened by it
abbrev pub PathLaw : Type 0
PathLaw = (root : Seat) (past : List Event) (e : Event) (i : ℕ) → Accepted root (e ∷ past) → AllFound root (e ∷ past)
    → find_fault false root (e ∷ past) i ≡ None → (is_below past i (node_of e) ≡ true) ⊎ (opens e i ≡ true)

-- and but for the opened one, none has a number above that of the query's node
abbrev pub FreeLaw : Type 0
FreeLaw = (root : Seat) (past : List Event) (e : Event) (i : ℕ) → Accepted root (e ∷ past) → AllFound root (e ∷ past)
    → find_fault false root (e ∷ past) i ≡ None → (i ≤ node_of e) ⊎ (opens e i ≡ true)
