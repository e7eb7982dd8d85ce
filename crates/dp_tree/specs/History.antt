-- The accepted queries of a tree of nodes, newest first, and what they make of it.
use Rattle.std.specs.Prelude.{◌≡◌, ℕ, ◌+◌, ◌*◌, ◌<◌, ◌==◌, ◌++◌, Bool, is_some, true, List, [], ◌∷◌}
use Rattle.std.specs.Prelude.{Option, Some, None, if◌then◌else◌, nat_lt, max, option_map}
use Rattle.std.specs.List.{sum_by, count_by}
use Rattle.dp_domain.specs.declared.domains.Domain.{Domain}
use Rattle.dp_domain.specs.declared.metrics.Metric.{Metric}
use Rattle.dp_budget.specs.declared.budget.Rule.{Rule}
use Rattle.dp_budget.specs.declared.over.Over.{Over}
use Rattle.dp_budget.specs.Rules.{BudgetValue, declared, refusal, turn}
use Rattle.dp_tree.specs.declared.faults.FindFault.{FindFault}
use Rattle.dp_tree.specs.declared.faults.FindFault.TheVariants.{NoNode, Frozen}
use Rattle.dp_tree.specs.declared.faults.SeatFault.{SeatFault}
use Rattle.dp_tree.specs.declared.faults.SeatFault.TheVariants as seats

-- what a node is given when it is made
pub record Seat : Type 0 where
  pub domain : Domain
  pub metric : Metric
  pub distance : ℕ
  pub rule : Rule

-- what a node with a new budget is given
abbrev pub given : Domain → Metric → ℕ → BudgetValue → Seat
given domain metric distance budget =
    record { domain = domain; metric = metric; distance = distance; rule = budget.rule }

-- an accepted query: its number, the node that it was addressed to, and the cost of an ask, or what
-- the opened child is given and the distance that its line makes of the node's
pub data Event : Type 0 where
  Ask : (number node cost : ℕ) → Event
  Open : (number node : ℕ) (seat : Seat) (mapped : ℕ) → Event

-- a node: its parent's number, how many nodes are above it, and what it was given
pub record Node : Type 0 where
  pub parent : ℕ
  pub depth : ℕ
  pub seat : Seat

abbrev pub number_of : Event → ℕ
number_of (Ask number _ _) = number
number_of (Open number _ _ _) = number

abbrev pub node_of : Event → ℕ
node_of (Ask _ node _) = node
node_of (Open _ node _ _) = node

-- the most that a budget of the rule admits in all, and 0 where it declares nothing
abbrev pub declared_or_zero : Option ℕ → ℕ
declared_or_zero (Some units) = units
declared_or_zero None = 0

-- what an open costs: all that the child may spend
abbrev pub total : Rule → ℕ
total rule = declared_or_zero (declared rule)

abbrev pub cost_of : Event → ℕ
cost_of (Ask _ _ cost) = cost
cost_of (Open _ _ seat _) = total seat.rule

-- the number of the newest query, or 0
abbrev pub newest : List Event → ℕ
newest [] = 0
newest (e ∷ _) = number_of e

-- the root, which has the number 0 and names itself as its parent
abbrev pub root_node : Seat → Node
root_node seat = record { parent = 0; depth = 0; seat = seat }

-- a child below a node of that number
abbrev pub child : ℕ → Seat → Node → Node
child number seat above = record { parent = number; depth = above.depth + 1; seat = seat }

-- node i: the root, or the child that the open of that number made
abbrev pub node_at : Seat → List Event → ℕ → Option Node
node_at root [] i = if i == 0 then Some (root_node root) else None
node_at root (Ask _ _ _ ∷ past) i = node_at root past i
node_at root (Open number node seat _ ∷ past) i =
    if number == i then option_map (child node seat) (node_at root past node) else node_at root past i

-- the numbers of all nodes, in the order in which they were made
abbrev pub nodes : List Event → List ℕ
nodes [] = 0 ∷ []
nodes (Ask _ _ _ ∷ past) = nodes past
nodes (Open number _ _ _ ∷ past) = nodes past ++ number ∷ []

-- the nodes above node i, nearest first
abbrev pub ancestors : List Event → ℕ → List ℕ
ancestors [] i = []
ancestors (Ask _ _ _ ∷ past) i = ancestors past i
ancestors (Open number node _ _ ∷ past) i =
    if number == i then node ∷ ancestors past node else ancestors past i

-- the costs of the queries that were addressed to node i
abbrev pub spent : List Event → ℕ → ℕ
spent past i = sum_by (λ e. if node_of e == i then cost_of e else 0) past

-- how many queries were addressed to node i
abbrev pub queries : List Event → ℕ → ℕ
queries past i = count_by (λ e. node_of e == i) past

-- the budget of node i, whose rule is given: of mids each query has used one
abbrev pub account : List Event → ℕ → Rule → BudgetValue
account past i rule = record { rule = rule; spent = spent past i; place = queries past i * turn rule }

-- the greatest number of a query that was addressed to node i, or 0
abbrev pub last_at : List Event → ℕ → ℕ
last_at [] i = 0
last_at (e ∷ past) i = if node_of e == i then max (number_of e) (last_at past i) else last_at past i

-- the nearest of some nodes to which a query after number i was addressed, with the last one there.
-- The nodes are given by name or place, and `number` and `last` tell what they stand for
abbrev pub nearest_later : (ℕ → ℕ) → (ℕ → ℕ) → ℕ → List ℕ → Option FindFault
nearest_later number last i [] = None
nearest_later number last i (above ∷ rest) =
    if nat_lt i (last above) then Some (Frozen (number above) (last above)) else nearest_later number last i rest

-- node i is frozen: a later query was addressed to a node above it
abbrev pub frozen : List Event → ℕ → Option FindFault
frozen past i = nearest_later (λ g. g) (last_at past) i (ancestors past i)

abbrev pub fault_of_node : Bool → List Event → ℕ → Option Node → Option FindFault
fault_of_node siblings_open past i None = Some NoNode
fault_of_node siblings_open past i (Some node) = if siblings_open then None else frozen past i

-- why no query may be addressed to node i: there is no such node, or it is frozen. Where siblings
-- stay open none is frozen
abbrev pub find_fault : Bool → Seat → List Event → ℕ → Option FindFault
find_fault siblings_open root past i = fault_of_node siblings_open past i (node_at root past i)

abbrev pub over_of_node : List Event → ℕ → ℕ → Option Node → Option Over
over_of_node past i cost None = None
over_of_node past i cost (Some node) = refusal (account past i node.seat.rule) cost

-- a cost is over the budget of node i
abbrev pub over_at : Seat → List Event → ℕ → ℕ → Option Over
over_at root past i cost = over_of_node past i cost (node_at root past i)

-- why no child may be opened at a node of some depth and budget: the node is at depth 16, the child's
-- distance is below the one that its line makes of the node's, or its total is over the node's budget
abbrev pub seat_refusal : ℕ → BudgetValue → ℕ → ℕ → Rule → Option SeatFault
seat_refusal depth budget distance mapped rule =
    if depth == 16 then Some seats.Depth
    else (if nat_lt distance mapped then Some (seats.ChildDistance mapped)
    else option_map seats.Over (refusal budget (total rule)))

abbrev pub seat_fault_of_node : List Event → ℕ → ℕ → ℕ → Rule → Option Node → Option SeatFault
seat_fault_of_node past i distance mapped rule None = None
seat_fault_of_node past i distance mapped rule (Some node) =
    seat_refusal node.depth (account past i node.seat.rule) distance mapped rule

-- why no child of that distance and rule may be opened at node i
abbrev pub seat_fault : Seat → List Event → ℕ → ℕ → ℕ → Rule → Option SeatFault
seat_fault root past i distance mapped rule =
    seat_fault_of_node past i distance mapped rule (node_at root past i)

-- the queries could be accepted one after the other: their numbers rise from 1, each was addressed to
-- a node that was there, and its cost was within that node's budget. Freezing, depth and the child's
-- distance play no part
abbrev pub Accepted : Seat → List Event → Type 0
Accepted root [] = Unit {0}
Accepted root (e ∷ past) =
    Accepted root past
    × (newest past < number_of e)
    × (is_some (node_at root past (node_of e)) ≡ true)
    × (over_at root past (node_of e) (cost_of e) ≡ None)
