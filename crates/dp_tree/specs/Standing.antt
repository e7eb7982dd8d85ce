-- When a tree stands at a history: its table is what the accepted queries make of it.
use Rattle.std.specs.Prelude.{◌≡◌, ℕ, ◌<◌, List, ◌∷◌, length, Option, Result, Some, OnOk, slice_index}
use Rattle.dp_budget.specs.declared.over.Over.{Over}
use Rattle.dp_budget.specs.declared.budget.Rule.{Rule}
use Rattle.dp_tree.specs.declared.faults.FindFault.{FindFault}
use Rattle.dp_tree.specs.declared.faults.SeatFault.{SeatFault}
use Rattle.dp_tree.specs.History.{Seat, Event, Node, number_of, newest, nodes, node_at, account}
use Rattle.dp_tree.specs.History.{last_at, Accepted, find_fault, over_at, seat_fault}
use Rattle.dp_tree.specs.Table.{Row, TreeValue, numbers, EachRow}

-- what the node of a row was given
abbrev pub seat_of : Row → Seat
seat_of row =
    record { domain = row.domain; metric = row.metric; distance = row.distance; rule = row.budget.rule }

-- the node of a row, where `names` are the numbers of all nodes
abbrev pub node_of_row : List ℕ → Row → Node
node_of_row names row =
    record { parent = slice_index names row.parent; depth = row.depth; seat = seat_of row }

-- the row is that of the history's node: its parent is there, and its budget and its last query are the history's
pub record IsRow (root : Seat) (past : List Event) (row : Row) : Type 0 where
  pub above : row.parent < length (nodes past)
  pub node : node_at root past row.number ≡ Some (node_of_row (nodes past) row)
  pub budget : row.budget ≡ account past row.number row.budget.rule
  pub last : row.last ≡ last_at past row.number

-- the tree's table is that of the history: it has a row for each node, in the order of their numbers
pub record Stands (root : Seat) (past : List Event) (t : TreeValue) : Type 0 where
  pub accepted : Accepted root past
  pub nodes : numbers t.rows ≡ nodes past
  pub rows : EachRow (IsRow root past) t

-- from a tree that stands at a history, the tree stands at the history with one query more
abbrev pub StandsAfter : TreeValue → Event → TreeValue → Type 0
StandsAfter old event new =
    (root : Seat) (past : List Event)
    → Stands root past old → newest past < number_of event → Stands root (event ∷ past) new

-- the same where the query was accepted
abbrev pub StandsIfOk : {E : Type 0} → Result (Unit {0}) E → TreeValue → Event → TreeValue → Type 0
StandsIfOk result old event new = OnOk result (StandsAfter old event new)

-- a tree that stands at a history stands there still
abbrev pub StandsStill : TreeValue → TreeValue → Type 0
StandsStill old new = (root : Seat) (past : List Event) → Stands root past old → Stands root past new

-- what finding a node answers is the verdict of each history at which the tree stands
abbrev pub FindsBy : TreeValue → ℕ → Option FindFault → Type 0
FindsBy t i fault =
    (root : Seat) (past : List Event)
    → Stands root past t → fault ≡ find_fault t.siblings_open root past i

-- what asking answers is the verdict of each history at which the tree stands
abbrev pub AsksBy : TreeValue → ℕ → ℕ → Option Over → Type 0
AsksBy t i cost fault =
    (root : Seat) (past : List Event) → Stands root past t → fault ≡ over_at root past i cost

-- what opening answers is the verdict of each history at which the tree stands
abbrev pub OpensBy : TreeValue → ℕ → ℕ → ℕ → Rule → Option SeatFault → Type 0
OpensBy t i distance mapped rule fault =
    (root : Seat) (past : List Event)
    → Stands root past t → fault ≡ seat_fault root past i distance mapped rule
