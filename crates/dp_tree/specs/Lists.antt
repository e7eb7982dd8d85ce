-- The lists in which a tree is kept: the numbers of its nodes, their links, and their other parts.
use Rattle.std.specs.Prelude.{◌≡◌, false, Result, OnOk, ℕ, ◌+◌, ◌≤◌, ◌<◌, ◌^◌, ◌==◌, List, [], ◌∷◌}
use Rattle.std.specs.Prelude.{map, length, Option, Some, None, if◌then◌else◌, nat_lt, slice_get}
use Rattle.std.specs.Prelude.{slice_index}
use Rattle.std.specs.Result.{result_err}
use Rattle.dp_num.specs.declared.trail.Link.{Link}
use Rattle.dp_num.specs.Reserved.{ReservedValue, with_item}
use Rattle.dp_domain.specs.Domains.{Fits}
use Rattle.dp_budget.specs.Rules.{refusal, charged}
use Rattle.dp_budget.specs.declared.over.Over.{Over}
use Rattle.dp_tree.specs.declared.states.NodeState.{NodeState}
use Rattle.dp_tree.specs.declared.faults.FindFault.{FindFault}
use Rattle.dp_tree.specs.History.{nearest_later}
use Rattle.dp_tree.specs.Table.{Row, TreeValue, numbers, place_of, places_above}

-- the row of a node
abbrev pub row_from : ℕ → Link → NodeState → Row
row_from number link state =
    record {
      number = number;
      parent = link.parent;
      depth = state.depth;
      domain = state.domain;
      metric = state.metric;
      distance = state.distance;
      budget = state.budget;
      last = link.last;
    }

-- the table, row by row
abbrev pub rows_from : List ℕ → List Link → List NodeState → List Row
rows_from (number ∷ names) (link ∷ links) (state ∷ states) = row_from number link state ∷ rows_from names links states
rows_from _ _ _ = []

abbrev pub link_parents : List Link → List ℕ
link_parents links = map (λ link. link.parent) links

abbrev pub link_lasts : List Link → List ℕ
link_lasts links = map (λ link. link.last) links

abbrev pub depths : List NodeState → List ℕ
depths states = map (λ state. state.depth) states

-- the place of the node that query `last` opened, where it opened one
abbrev pub live_child : List ℕ → ℕ → Option ℕ
live_child names last =
    if last == 0 then None
    else (if nat_lt (place_of names last) (length names) then Some (place_of names last) else None)

-- the numbers rise
abbrev pub Rise : List ℕ → Type 0
Rise names = (i j : ℕ) → i < j → j < length names → slice_index names i < slice_index names j

-- each parent has a place
abbrev pub ParentsInside : List Link → Type 0
ParentsInside links = (k : ℕ) → k < length links → slice_index (link_parents links) k < length links

-- the nearest node above a place to which a query after number i was addressed, read from the lists
abbrev pub frozen_from : List ℕ → List Link → ℕ → ℕ → ℕ → Option FindFault
frozen_from names links i depth place =
    nearest_later (slice_index names) (slice_index (link_lasts links)) i (places_above (link_parents links) depth place)

-- numbers, places of parents and depths are those of a tree: the numbers rise from 0, that of the root,
-- each other node's parent stands before it and is one level higher, and no node is below depth 16
pub record IsTree (names parents levels : List ℕ) : Type 0 where
  pub as_many_parents : length parents ≡ length names
  pub as_many_levels : length levels ≡ length names
  pub rising : Rise names
  pub some : 0 < length names
  pub first : slice_index names 0 ≡ 0
  pub root_parent : slice_index parents 0 ≡ 0
  pub root_level : slice_index levels 0 ≡ 0
  pub before : (k : ℕ) → 0 < k → k < length names → slice_index parents k < k
  pub deeper :
      (k : ℕ) → 0 < k → k < length names
      → slice_index levels k ≡ slice_index levels (slice_index parents k) + 1
  pub shallow : (k : ℕ) → k < length names → slice_index levels k ≤ 16

-- each link names the live child of its node
abbrev pub NameLive : List ℕ → List Link → Type 0
NameLive names links =
    (k : ℕ) (link : Link) → slice_get links k ≡ Some link → link.live ≡ live_child names link.last

-- domains and distances are within their limits
abbrev pub WithinLimits : List NodeState → Type 0
WithinLimits states =
    (k : ℕ) (state : NodeState) → slice_get states k ≡ Some state → Fits state.domain × (state.distance ≤ 2 ^ 32)

-- the lists are those of a tree
pub record HoldTree (names : List ℕ) (links : List Link) (states : List NodeState) : Type 0 where
  pub shape : IsTree names (link_parents links) (depths states)
  pub live : NameLive names links
  pub limits : WithinLimits states

-- a node's state after a query of some cost
abbrev pub charged_state : ℕ → NodeState → NodeState
charged_state cost state =
    record {
      depth = state.depth;
      domain = state.domain;
      metric = state.metric;
      distance = state.distance;
      budget = charged state.budget cost;
    }

-- what `charge` does to the state of the node at a place
abbrev pub ChargesAt : ReservedValue NodeState → ℕ → ℕ → Result (Unit {0}) Over → ReservedValue NodeState → Type 0
ChargesAt old place cost result new =
    (state : NodeState) → slice_get old.items place ≡ Some state
    → (result_err result ≡ refusal state.budget cost)
    × OnOk result (new ≡ with_item old place (charged_state cost state))

-- the trail has a link a row: the place of the parent, the last query, and where siblings are frozen
-- the place of the live child
pub record IsTrailOf (t : TreeValue) (links : List Link) : Type 0 where
  pub parents : link_parents links ≡ map (λ row. row.parent) t.rows
  pub lasts : link_lasts links ≡ map (λ row. row.last) t.rows
  pub live : t.siblings_open ≡ false → NameLive (numbers t.rows) links

-- what is kept of the node of a row
pub record IsStateOf (row : Row) (state : NodeState) : Type 0 where
  pub depth : row.depth ≡ state.depth
  pub domain : row.domain ≡ state.domain
  pub metric : row.metric ≡ state.metric
  pub distance : row.distance ≡ state.distance
  pub budget : row.budget ≡ state.budget
