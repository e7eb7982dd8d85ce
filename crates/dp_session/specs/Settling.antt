-- How queries are settled: what their code makes of them, and at which lines they stand.
use Rattle.std.specs.Prelude.{◌≡◌, ℕ, ◌+◌, List, length, Result, Ok, Err, IsSome}
use Rattle.dp_count.specs.Results.{on_ok}
use Rattle.dp_tree.specs.Standing.{Stands, StandsAfter}
use Rattle.dp_tree.specs.Table.{TreeValue, IsNext, row_of}
use Rattle.dp_pipeline.specs.declared.content.Content.{Content}
use Rattle.dp_law.specs.declared.refusals.MakeFault.{MakeFault}
use Rattle.dp_law.specs.declared.refusals.MakeFault.TheVariants as make_fault
use Rattle.dp_law.specs.declared.refusals.Refused.TheVariants as refused
use Rattle.dp_pipeline.specs.Accepted.{siblings_open, part_refused}
use Rattle.dp_session.specs.declared.faults.JudgeFault.{JudgeFault}
use Rattle.dp_session.specs.declared.faults.JudgeFault.TheVariants as fault
use Rattle.dp_session.specs.declared.refusal.Refusal.{Refusal}
use Rattle.dp_session.specs.declared.refusal.Refusal.TheVariants as refusal
use Rattle.dp_session.specs.Verdicts.{Grant, root_seat, past_events}
use Rattle.dp_session.specs.declared.work.Work as made
use Rattle.dp_session.specs.QueryLines.{work_of}
use Rattle.dp_session.specs.Works.{meaning_of}

-- a pipeline, the tree of its nodes, and how many queries were answered
pub record QueriesValue : Type 0 where
  pub pipeline : Content
  pub tree : TreeValue
  pub answered : ℕ

-- the queries stand at some lines, newest first: as many were answered, and the tree is what they make of it
pub record StandAt (queries : QueriesValue) (past : List (List ℕ)) : Type 0 where
  pub counted : queries.answered ≡ length past
  pub siblings : queries.tree.siblings_open ≡ siblings_open queries.pipeline
  pub tree : Stands (root_seat queries.pipeline) (past_events queries.pipeline past) queries.tree

-- the next query's number is above those of the table, and the root is there
pub record IsReady (t : TreeValue) (answered : ℕ) : Type 0 where
  pub next : IsNext t (answered + 1)
  pub root : IsSome (row_of t 0)

-- what is made is as the definition says, or has its refusal, unless memory ran out
abbrev pub MadeOr : {T M : Type 0} → (T → M) → Result T JudgeFault → Result M Refusal → Type 0
MadeOr meaning (Ok made) wanted = wanted ≡ Ok (meaning made)
MadeOr meaning (Err (fault.Refused reason)) wanted = wanted ≡ Err reason
MadeOr meaning (Err fault.NoMemory) wanted = Unit {0}

-- a query is accepted as the definition says, or has its refusal, unless memory ran out
abbrev pub Settles : Result made.Work JudgeFault → Result Grant Refusal → Type 0
Settles result wanted = MadeOr meaning_of result (on_ok work_of wanted)

-- after an accepted query the tree stands at one event more, and a refused one left its table as it was
abbrev pub Extends : Result made.Work JudgeFault → Result Grant Refusal → TreeValue → TreeValue → Type 0
Extends (Ok work) wanted old new = (grant : Grant) → wanted ≡ Ok grant → StandsAfter old grant.event new
Extends (Err (fault.Refused reason)) wanted old new = new.rows ≡ old.rows
Extends (Err fault.NoMemory) wanted old new = Unit {0}

-- a fact that holds of a query that was accepted or refused
abbrev pub IfSettled : Result made.Work JudgeFault → Type 0 → Type 0
IfSettled (Ok work) P = P
IfSettled (Err (fault.Refused reason)) P = P
IfSettled (Err fault.NoMemory) P = Unit {0}

-- the refusal of a part that is not made, or want of memory
abbrev pub not_made : MakeFault → JudgeFault
not_made make_fault.Kind = fault.Refused (refusal.Construction (part_refused refused.Kind))
not_made make_fault.Metric = fault.Refused (refusal.Construction (part_refused refused.Metric))
not_made make_fault.Bound = fault.Refused (refusal.Construction (part_refused refused.Bound))
not_made make_fault.NoMemory = fault.NoMemory
