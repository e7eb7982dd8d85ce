-- What becomes of each line of queries: it is accepted, or the first of the refusals that applies is its own.
use Rattle.std.specs.Prelude.{ℕ, ◌+◌, Bool, List, [], ◌∷◌, map, length, reverse, Option, Some, None, Result, Ok, Err}
use Rattle.std.specs.Prelude.{option_map, ⊤}
use Rattle.dp_count.specs.Results.{◌>>=◌}
use Rattle.dp_num.specs.Limits.{Fraction}
use Rattle.dp_budget.specs.declared.budget.Rule.{Rule}
use Rattle.dp_budget.specs.declared.over.Over.{Over}
use Rattle.dp_budget.specs.Rules.{BudgetValue}
use Rattle.dp_law.specs.Mapping.{Mapping}
use Rattle.dp_law.specs.Mechanism.{Mechanism}
use Rattle.dp_chain.specs.declared.faults.CostFault.TheVariants as cost_fault
use Rattle.dp_chain.specs.declared.noise.Part.{Part}
use Rattle.dp_chain.specs.declared.stage.Stage.{Stage}
use Rattle.dp_chain.specs.Lines.{line_on}
use Rattle.dp_chain.specs.Releases.{release_on, cost_of}
use Rattle.dp_tree.specs.declared.faults.FindFault.{FindFault}
use Rattle.dp_tree.specs.declared.faults.FindFault.TheVariants as find_fault
use Rattle.dp_tree.specs.declared.faults.SeatFault.{SeatFault}
use Rattle.dp_tree.specs.declared.faults.SeatFault.TheVariants as seat_fault
use Rattle.dp_tree.specs.History as history
use Rattle.dp_tree.specs.History.{Seat, Event, Ask, Open, given, spent}
use Rattle.dp_tree.specs.Table as table
use Rattle.dp_tree.specs.Table.{Row, TreeValue}
use Rattle.dp_pipeline.specs.declared.content.Content.{Content}
use Rattle.dp_pipeline.specs.declared.query.Query.{Query}
use Rattle.dp_pipeline.specs.declared.query.Query.TheVariants as query
use Rattle.dp_pipeline.specs.Accepted.{part_refused, cost_refused, root_domain, root_metric, ratio_of, siblings_open}
use Rattle.dp_pipeline.specs.Places.{PlaceValue}
use Rattle.dp_pipeline.specs.Queries.{query_of}
use Rattle.dp_session.specs.declared.refusal.Refusal.{Refusal}
use Rattle.dp_session.specs.declared.refusal.Refusal.TheVariants as refusal

-- ---- one query

-- what an accepted query asks for: a release on the value of a node, or a child, whose value is what a line gives of
-- the node's
pub data Task : Type 0 where
  Release : Mechanism → Task
  Child : Mapping → Task

-- an accepted query: what a tree of nodes keeps of it, and its task
pub record Grant : Type 0 where
  pub event : Event
  pub task : Task

-- what the accepted queries so far tell of the nodes: why no query may be addressed to one, where its releases and
-- lines are made, and why a cost or a child is refused there
pub record Nodes : Type 0 where
  pub fault : ℕ → Option FindFault
  pub place : ℕ → Option PlaceValue
  pub over : ℕ → ℕ → Option Over
  pub unseated : ℕ → ℕ → ℕ → Rule → Option SeatFault

-- no such node, or a frozen one
abbrev pub find_refusal : FindFault → Refusal
find_refusal find_fault.NoNode = refusal.NoNode
find_refusal (find_fault.Frozen ancestor later) = refusal.Frozen ancestor later

-- too deep, too near, or over the budget
abbrev pub seat_refusal : SeatFault → Refusal
seat_refusal seat_fault.Depth = refusal.Depth
seat_refusal (seat_fault.ChildDistance mapped) = refusal.ChildDistance mapped
seat_refusal (seat_fault.Over over) = refusal.Budget over

-- there is no fault, or its refusal
abbrev pub unless : {F : Type 0} → (F → Refusal) → Option F → Result ⊤ Refusal
unless as_refusal None = Ok tt
unless as_refusal (Some fault) = Err (as_refusal fault)

-- what is made, or the number of the refusal
abbrev pub made_or : {A E : Type 0} → (E → ℕ) → Result A E → Result A Refusal
made_or number (Ok x) = Ok x
made_or number (Err fault) = Err (refusal.Construction (number fault))

-- a distance, or the refusal where there is none
abbrev pub distance_or : Option ℕ → Result ℕ Refusal
distance_or None = Err (refusal.Construction (cost_refused cost_fault.Distance))
distance_or (Some distance) = Ok distance

abbrev pub place_unless : Option FindFault → Option PlaceValue → Result PlaceValue Refusal
place_unless (Some fault) place = Err (find_refusal fault)
place_unless None None = Err refusal.NoNode
place_unless None (Some place) = Ok place

-- the place of a node to which a query may be addressed
abbrev pub found : Nodes → ℕ → Result PlaceValue Refusal
found nodes node = place_unless (nodes.fault node) (nodes.place node)

-- an ask: the node is found, the release is made there and has a cost at its distance, and the node's budget admits it
unfoldable pub ask_on : Fraction → Nodes → ℕ → ℕ → List Part → Result Grant Refusal
ask_on ratio nodes number node parts = do
  at ← found nodes node
  release ← made_or part_refused (release_on ratio parts at.domain at.metric)
  cost ← made_or cost_refused (cost_of release at.distance)
  admitted ← unless refusal.Budget (nodes.over node cost)
  Ok (record { event = Ask number node cost; task = Release release })

-- an open: the node is found, the line is made there and makes a distance of the node's, and a child may sit there
unfoldable pub open_on : Nodes → ℕ → ℕ → List Stage → ℕ → BudgetValue → Result Grant Refusal
open_on nodes number node stages distance budget = do
  at ← found nodes node
  line ← made_or part_refused (line_on stages at.domain at.metric)
  mapped ← distance_or (line.stability_map at.distance)
  seated ← unless seat_refusal (nodes.unseated node distance mapped budget.rule)
  Ok (record {
    event = Open number node (given line.output_domain line.output_metric distance budget) mapped;
    task = Child line;
  })

-- a query by its number, or a line that spells none
abbrev pub judge : Fraction → Nodes → ℕ → Option Query → Result Grant Refusal
judge ratio nodes number None = Err refusal.Malformed
judge ratio nodes number (Some (query.Ask node spec)) = ask_on ratio nodes number node spec.parts
judge ratio nodes number (Some (query.Open node stages distance budget)) =
    open_on nodes number node stages distance budget

-- ---- all queries so far, newest first

abbrev pub events : List Grant → List Event
events granted = map (λ grant. grant.event) granted

-- where the releases and lines of a node are made
abbrev pub place_of : Seat → PlaceValue
place_of seat = record { domain = seat.domain; metric = seat.metric; distance = seat.distance }

abbrev pub place_of_row : Row → PlaceValue
place_of_row row = record { domain = row.domain; metric = row.metric; distance = row.distance }

-- what a history tells of the nodes below a root
abbrev pub by_history : Bool → Seat → List Event → Nodes
by_history siblings root past = record {
  fault = history.find_fault siblings root past;
  place = λ i. option_map (λ node. place_of node.seat) (history.node_at root past i);
  over = history.over_at root past;
  unseated = history.seat_fault root past;
}

-- what a tree's table tells of its nodes
abbrev pub by_table : TreeValue → Nodes
by_table t = record {
  fault = table.fault_in t;
  place = λ i. option_map place_of_row (table.row_of t i);
  over = table.over_in t;
  unseated = table.seat_fault_in t;
}

-- what the root of a pipeline is given
abbrev pub root_seat : Content → Seat
root_seat pipeline = record {
  domain = root_domain pipeline;
  metric = root_metric pipeline;
  distance = pipeline.distance;
  rule = pipeline.root;
}

-- what becomes of a line by its number, after these accepted queries
abbrev pub judged : Content → List Grant → ℕ → List ℕ → Result Grant Refusal
judged pipeline past number line =
    judge (ratio_of pipeline) (by_history (siblings_open pipeline) (root_seat pipeline) (events past)) number
    (query_of pipeline line)

-- an accepted query is one more
abbrev pub with_verdict : Result Grant Refusal → List Grant → List Grant
with_verdict (Ok grant) past = grant ∷ past
with_verdict (Err refused) past = past

-- the accepted queries of some lines, newest first. The newest line is the first of the list, and the oldest has the
-- number 1
unfoldable pub granted : Content → List (List ℕ) → List Grant
granted pipeline [] = []
granted pipeline (line ∷ past) =
    with_verdict (judged pipeline (granted pipeline past) (length past + 1) line) (granted pipeline past)

-- what becomes of a line that comes after others
abbrev pub verdict : Content → List (List ℕ) → List ℕ → Result Grant Refusal
verdict pipeline past line = judged pipeline (granted pipeline past) (length past + 1) line

-- the events of some lines
abbrev pub past_events : Content → List (List ℕ) → List Event
past_events pipeline past = events (granted pipeline past)

-- what the root has spent after some lines
abbrev pub root_spent : Content → List (List ℕ) → ℕ
root_spent pipeline past = spent (past_events pipeline past) 0

-- the units of a list of lines, oldest first
abbrev pub units : Content → List (List ℕ) → ℕ
units pipeline lines = root_spent pipeline (reverse lines)
