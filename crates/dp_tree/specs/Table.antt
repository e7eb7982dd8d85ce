-- The table of a tree: one row a node, in the order of their numbers.
use Rattle.std.specs.Prelude.{◌≡◌, ℕ, zero, suc, ◌+◌, ◌-◌, ◌<◌, ◌==◌, ◌++◌, Bool, List, [], ◌∷◌}
use Rattle.std.specs.Prelude.{map, Option, Some, None, if◌then◌else◌, slice_get, slice_index}
use Rattle.std.specs.List.{position_or_len}
use Rattle.dp_domain.specs.declared.domains.Domain.{Domain}
use Rattle.dp_domain.specs.declared.metrics.Metric.{Metric}
use Rattle.dp_budget.specs.declared.budget.Rule.{Rule}
use Rattle.dp_budget.specs.declared.over.Over.{Over}
use Rattle.dp_budget.specs.Rules.{BudgetValue, fresh, charged, refusal}
use Rattle.dp_tree.specs.declared.faults.FindFault.{FindFault}
use Rattle.dp_tree.specs.declared.faults.FindFault.TheVariants.{NoNode}
use Rattle.dp_tree.specs.declared.faults.SeatFault.{SeatFault}
use Rattle.dp_tree.specs.History.{Seat, total, nearest_later, seat_refusal}

-- a node's number, the place of its parent's row (0 at the root), how many nodes are above it, what
-- it was given, its budget, and the number of the last query at it, or 0
pub record Row : Type 0 where
  pub number : ℕ
  pub parent : ℕ
  pub depth : ℕ
  pub domain : Domain
  pub metric : Metric
  pub distance : ℕ
  pub budget : BudgetValue
  pub last : ℕ

-- a tree: its table, for how many more nodes there is room, and whether a query leaves the nodes
-- below open
pub record TreeValue : Type 0 where
  pub rows : List Row
  pub spare : ℕ
  pub siblings_open : Bool

abbrev pub numbers : List Row → List ℕ
numbers rows = map (λ row. row.number) rows

abbrev pub parents : List Row → List ℕ
parents rows = map (λ row. row.parent) rows

abbrev pub lasts : List Row → List ℕ
lasts rows = map (λ row. row.last) rows

-- the place of the row of node i, from 0, or the number of rows where there is none
abbrev pub place_of : List ℕ → ℕ → ℕ
place_of names i = position_or_len (λ name. name == i) names

-- the row of node i
abbrev pub row_of : TreeValue → ℕ → Option Row
row_of t i = slice_get t.rows (place_of (numbers t.rows) i)

-- so many places above a place, nearest first
abbrev pub places_above : List ℕ → ℕ → ℕ → List ℕ
places_above parents zero place = []
places_above parents (suc depth) place =
    slice_index parents place ∷ places_above parents depth (slice_index parents place)

-- the nearest node above a place to which a query after number i was addressed
abbrev pub frozen_in : List Row → ℕ → ℕ → ℕ → Option FindFault
frozen_in rows i depth place =
    nearest_later (slice_index (numbers rows)) (slice_index (lasts rows)) i (places_above (parents rows) depth place)

abbrev pub fault_of_row : TreeValue → ℕ → Option Row → Option FindFault
fault_of_row t i None = Some NoNode
fault_of_row t i (Some row) =
    if t.siblings_open then None else frozen_in t.rows i row.depth (place_of (numbers t.rows) i)

-- why no query may be addressed to node i, by the table
abbrev pub fault_in : TreeValue → ℕ → Option FindFault
fault_in t i = fault_of_row t i (row_of t i)

abbrev pub over_of_row : ℕ → Option Row → Option Over
over_of_row cost None = None
over_of_row cost (Some row) = refusal row.budget cost

-- a cost is over the budget of node i, by the table
abbrev pub over_in : TreeValue → ℕ → ℕ → Option Over
over_in t i cost = over_of_row cost (row_of t i)

abbrev pub seat_fault_of_row : ℕ → ℕ → Rule → Option Row → Option SeatFault
seat_fault_of_row distance mapped rule None = None
seat_fault_of_row distance mapped rule (Some row) = seat_refusal row.depth row.budget distance mapped rule

-- why no child of that distance and rule may be opened at node i, by the table
abbrev pub seat_fault_in : TreeValue → ℕ → ℕ → ℕ → Rule → Option SeatFault
seat_fault_in t i distance mapped rule = seat_fault_of_row distance mapped rule (row_of t i)

-- the row after a query of that number and cost
abbrev pub charged_row : ℕ → ℕ → Row → Row
charged_row number cost row =
    record {
      number = row.number;
      parent = row.parent;
      depth = row.depth;
      domain = row.domain;
      metric = row.metric;
      distance = row.distance;
      budget = charged row.budget cost;
      last = number;
    }

-- node i's row is charged, all others stay
abbrev pub charged_rows : ℕ → ℕ → ℕ → List Row → List Row
charged_rows i number cost rows = map (λ row. if row.number == i then charged_row number cost row else row) rows

-- the row of a new node, below the row at a place and of some depth
abbrev pub new_row : ℕ → ℕ → ℕ → Seat → Row
new_row number parent depth seat =
    record {
      number = number;
      parent = parent;
      depth = depth;
      domain = seat.domain;
      metric = seat.metric;
      distance = seat.distance;
      budget = fresh seat.rule;
      last = 0;
    }

abbrev pub depth_of_row : Option Row → ℕ
depth_of_row None = 0
depth_of_row (Some row) = row.depth

-- the table of the root alone
abbrev pub root_rows : Seat → List Row
root_rows seat = new_row 0 0 0 seat ∷ []

-- the tree after an ask at node i
abbrev pub asked : TreeValue → ℕ → ℕ → ℕ → TreeValue
asked t i number cost =
    record { rows = charged_rows i number cost t.rows; spare = t.spare; siblings_open = t.siblings_open }

-- the tree after an open at node i: its row is charged the child's total, and the child's row is the last
abbrev pub opened : TreeValue → ℕ → ℕ → Seat → TreeValue
opened t i number seat =
    record {
      rows =
          charged_rows i number (total seat.rule) t.rows
          ++ new_row number (place_of (numbers t.rows) i) (depth_of_row (row_of t i) + 1) seat ∷ [];
      spare = t.spare - 1;
      siblings_open = t.siblings_open;
    }

-- a fact of each row
abbrev pub EachRow : (Row → Type 0) → TreeValue → Type 0
EachRow P t = (place : ℕ) (row : Row) → slice_get t.rows place ≡ Some row → P row

-- the number is greater than that of every accepted query
abbrev pub IsNext : TreeValue → ℕ → Type 0
IsNext t number = EachRow (λ row. (row.number < number) × (row.last < number)) t
