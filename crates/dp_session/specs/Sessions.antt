-- A session: queries on a pipeline, answered on records.
use Rattle.std.specs.Prelude.{◌≡◌, ℕ, Bool, false, List, length, Option, Some, None, Result, Ok, Err}
use Rattle.dp_count.specs.Faults.{Rose}
use Rattle.dp_count.specs.Slots.{Slot}
use Rattle.dp_domain.specs.declared.domains.Domain.TheVariants as domain
use Rattle.dp_domain.specs.declared.values.Value.{Value}
use Rattle.dp_domain.specs.declared.values.Value.TheVariants as value
use Rattle.dp_domain.specs.Domains.{Fits, Has}
use Rattle.dp_draws.specs.Taking.{Turn, take_draws}
use Rattle.dp_io.specs.Sink.{appended, AddsFront}
use Rattle.dp_law.specs.Releasing.{TakesFront}
use Rattle.dp_pipeline.specs.declared.content.Content.{Content}
use Rattle.dp_pipeline.specs.Accepted.{siblings_open}
use Rattle.dp_store.specs.Held.{is_rows}
use Rattle.dp_store.specs.Selections.{selected}
use Rattle.dp_store.specs.Stores.{StoreValue}
use Rattle.dp_tree.specs.declared.faults.FindFault.{FindFault}
use Rattle.dp_tree.specs.History.{find_fault}
use Rattle.dp_session.specs.declared.faults.SessionFault.{SessionFault}
use Rattle.dp_session.specs.declared.faults.SessionFault.TheVariants as fault
use Rattle.dp_session.specs.Runs.{value_at}
use Rattle.dp_session.specs.Settling.{QueriesValue, StandAt}
use Rattle.dp_session.specs.Values.{ValuesValue, value_of, AreHeld}
use Rattle.dp_session.specs.Verdicts.{granted, past_events, root_seat}

-- ---- where a session stands

-- its queries, its records, the values of its nodes, and whether a fault or its last line ended it
pub record SessionValue : Type 0 where
  pub queries : QueriesValue
  pub store : StoreValue
  pub values : ValuesValue
  pub ended : Bool

-- a value, where nothing is wrong
abbrev pub unless_fault : Option FindFault → Value → Option Value
unless_fault None v = Some v
unless_fault (Some fault) v = None

-- why no query may be addressed to a node after some lines, newest first
abbrev pub node_fault : Content → List (List ℕ) → ℕ → Option FindFault
node_fault pipeline past node =
    find_fault (siblings_open pipeline) (root_seat pipeline) (past_events pipeline past) node

-- after some lines on records, the value is held of each node to which a query may be addressed, and of no other
pub record HoldValues (pipeline : Content) (rows : List (List (List ℕ))) (past : List (List ℕ))
    (values : ValuesValue) : Type 0 where
  pub each : (node : ℕ) → value_of rows values node
      ≡ unless_fault (node_fault pipeline past node) (value_at (value.Rows rows) (granted pipeline past) node)
  pub held : AreHeld rows values

-- queries stand at some lines, newest first, on the records of a store, and the values of the nodes are held
pub record AreAt (queries : QueriesValue) (store : StoreValue) (values : ValuesValue) (past : List (List ℕ))
    : Type 0 where
  pub stands : StandAt queries past
  pub columns_are : store.columns ≡ length queries.pipeline.columns
  pub fits : Fits (domain.Rows store.columns)
  pub has : Has (domain.Rows store.columns) (value.Rows store.records)
  pub values_are : HoldValues queries.pipeline store.records past values

-- they do so at some lines
pub record AreSomewhere (queries : QueriesValue) (store : StoreValue) (values : ValuesValue) : Type 0 where
  pub past : List (List ℕ)
  pub at : AreAt queries store values past

-- the session of a pipeline on records stands at some lines: it has not ended, and its queries and values are there
pub record IsSessionAt (session : SessionValue) (pipeline : Content) (rows : List (List (List ℕ)))
    (past : List (List ℕ)) : Type 0 where
  pub live : session.ended ≡ false
  pub pipeline_is : session.queries.pipeline ≡ pipeline
  pub records_are : session.store.records ≡ rows
  pub at : AreAt session.queries session.store session.values past

-- the selection that is held of a node after some lines on records, if there is one: it selects the node's value, and
-- there is one exactly where a query may be addressed to the node and its value is one of records
abbrev pub Selects : Option (List ℕ) → Content → List (List (List ℕ)) → List (List ℕ) → ℕ → Type 0
Selects (Some chosen) pipeline rows past node =
    (node_fault pipeline past node ≡ None)
    × (value.Rows (selected rows chosen) ≡ value_at (value.Rows rows) (granted pipeline past) node)
Selects None pipeline rows past node = node_fault pipeline past node ≡ None
    → is_rows (value_at (value.Rows rows) (granted pipeline past) node) ≡ false

-- ---- one line more

-- a source of draws before and after a call
pub record Drawing : Type 0 where
  pub step : List ℕ → ℕ → Turn
  pub before : List ℕ
  pub after : List ℕ

-- the source gave these draws for the shape, or failed
abbrev pub Gives : Drawing → List ℕ → Option (List ℕ) → Type 0
Gives source shape draws =
    take_draws source.step source.before shape ≡ record { draws = draws; last = source.after }

-- what a call that answers a line of a standing session leaves of its draw source and its output, where the slot has
-- the bounds of the line's draws and what is written by them. After Ok the draws were taken and the output gained the
-- line; after a draw fault they could not be taken, and nothing was written; after a write fault they were, and a front
-- of the line was written; without memory some first part of them was taken, and nothing was written. It does not
-- answer that the session has ended
abbrev pub AnswersLine : Result (Unit {0}) SessionFault → Drawing → Slot (List ℕ)
    → Option (List ℕ) → Option (List ℕ) → Type 0
AnswersLine (Ok done) source slot old new =
    (draws : List ℕ) × Gives source slot.shape (Some draws) × (new ≡ appended old (slot.out draws))
AnswersLine (Err fault.Ended) source slot old new = ⊥
AnswersLine (Err fault.DrawFault) source slot old new = Gives source slot.shape None × (new ≡ old)
AnswersLine (Err fault.WriteFault) source slot old new =
    (draws : List ℕ) × Gives source slot.shape (Some draws) × AddsFront old new (slot.out draws)
AnswersLine (Err fault.NoMemory) source slot old new =
    TakesFront source.step slot.shape source.before source.after × (new ≡ old)

-- what a call that makes the text of a slot leaves of its draw source: the draws were taken and the text is that of
-- them, or they could not be taken, or some first part of them was taken
abbrev pub MakesText : {T : Type 0} → (T → List ℕ) → Result T SessionFault → Drawing → Slot (List ℕ) → Type 0
MakesText view (Ok text) source slot =
    (draws : List ℕ) × Gives source slot.shape (Some draws) × (view text ≡ slot.out draws)
MakesText view (Err fault.DrawFault) source slot = Gives source slot.shape None
MakesText view (Err fault.NoMemory) source slot = TakesFront source.step slot.shape source.before source.after
MakesText view (Err reason) source slot = ⊥

-- the count of faults of a draw source rose at a draw fault alone, and did not fall
abbrev pub DrawCause : {T : Type 0} → Result T SessionFault → ℕ → ℕ → Type 0
DrawCause (Err fault.DrawFault) before now = Rose before now
DrawCause result before now = now ≡ before
