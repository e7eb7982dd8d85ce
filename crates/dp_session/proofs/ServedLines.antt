-- The line that is written of a query that was done, and where its queries and values are then.
use Rattle.std.proofs.Common.{◌≡◌, ◌≢◌, ◌<◌, ◌+◌, ℕ, Bool, true, false, cond, inl, inr, Option, Some, None, Result, Ok, Err, List, [], ◌∷◌, ◌++◌, length, option_map, codes, refl, sym, ◌∙◌, ap, subst, arith}
use Rattle.std.specs.Prelude.{IsSome}
use Rattle.std.proofs.lemmas.List.{append-nil}
use Rattle.dp_count.specs.Results.{on_ok}
use Rattle.dp_count.specs.Slots.{Slot}
use Rattle.dp_domain.specs.declared.values.Value.{Value}
use Rattle.dp_domain.specs.declared.values.Value.TheVariants as value
use Rattle.dp_draws.specs.Taking.{Turn, Taken, take_draws}
use Rattle.dp_law.specs.declared.pieces.Piece.{Piece}
use Rattle.dp_law.specs.Releasing.{Released, TakesFront}
use Rattle.dp_pipeline.specs.declared.content.Content.{Content}
use Rattle.dp_pipeline.specs.Accepted.{siblings_open}
use Rattle.dp_store.specs.declared.held.Held.{Held}
use Rattle.dp_store.specs.declared.held.Held.TheVariants as held
use Rattle.dp_store.specs.Held.{held_value, IsHeld, is_rows}
use Rattle.dp_store.specs.Selections.{IsSelection, selected}
use Rattle.dp_store.specs.Stores.{StoreValue}
use Rattle.dp_domain.specs.declared.domains.Domain.{Domain}
use Rattle.dp_domain.specs.declared.domains.Domain.TheVariants as domain
use Rattle.dp_io.specs.Sink.{AddsFront}
use Rattle.dp_domain.specs.Domains.{Fits, Has}
use Rattle.std.proofs.lemmas.Bool.Decides.{eqb_tells}
use Rattle.dp_tree.specs.History.{Seat, find_fault}
use Rattle.dp_session.specs.declared.faults.JudgeFault.{JudgeFault}
use Rattle.dp_session.specs.declared.faults.JudgeFault.TheVariants as judge_fault
use Rattle.dp_session.specs.declared.faults.SessionFault.{SessionFault}
use Rattle.dp_session.specs.declared.faults.SessionFault.TheVariants as fault
use Rattle.dp_session.specs.declared.refusal.Refusal.{Refusal}
use Rattle.dp_session.specs.declared.task.Task as made_task
use Rattle.dp_session.specs.declared.task.Task.TheVariants as task
use Rattle.dp_session.specs.QueryLines.{Work, work_of, task_text, verdict_text, refusal_text, cost_text, numbered}
use Rattle.dp_session.specs.Runs.{value_at, task_shape, query_shape}
use Rattle.dp_session.specs.Serving.{Serves, done_text, task_slot, value_then}
use Rattle.dp_session.specs.SessionLines.{released_text, session_slot}
use Rattle.dp_session.specs.Sessions.{Drawing, Gives, MakesText, AnswersLine, AreAt, HoldValues, Selects, node_fault, unless_fault}
use Rattle.dp_session.specs.Settling.{QueriesValue, StandAt, MadeOr, IfSettled}
use Rattle.dp_session.specs.Values.{ValuesValue, held_of, value_of, AreHeld}
use Rattle.dp_session.specs.Verdicts.{Grant, Task, Release, Child, granted, verdict, root_seat, root_spent}
use Rattle.dp_session.specs.Works.{task_of, meaning_of}
use Rattle.dp_session.proofs.NextValues.{hold-next, hold-same}
use Rattle.dp_session.proofs.ServedTasks.{served, granted-value, value-held, held-before}

-- ---- draws

-- all draws are some first part of them
took-all : (step : List ℕ → ℕ → Turn) (shape before after draws : List ℕ) → take_draws step before shape ≡ record { draws = Some draws; last = after }
    → TakesFront step shape before after
took-all step shape before after draws e = (shape, [], draws, sym (append-nil shape), e)

abbrev taken : Option (List ℕ) → List ℕ → Taken
taken draws last = record { draws = draws; last = last }

taken-is : (t : Taken) (draws after : List ℕ) → t.draws ≡ Some draws → after ≡ t.last → t ≡ record { draws = Some draws; last = after }
taken-is t draws after e f = ap (λ (d : Option (List ℕ)). taken d t.last) e ∙ ap (λ (l : List ℕ). taken (Some draws) l) (sym f)

pub released-front : (step : List ℕ → ℕ → Turn) (shape : List ℕ) (function : List ℕ → List Piece) (before after : List ℕ) (answer : List Piece)
    → Released step shape function before (Ok answer) after → TakesFront step shape before after
released-front step shape function before after answer h = go (take_draws step before shape) refl h.0 h.1
  where
    some : (t : Taken) (o : Option (List ℕ)) → t.draws ≡ o → Some answer ≡ option_map function o → take_draws step before shape ≡ t → after ≡ t.last → TakesFront step shape before after
    some t None e is same last = absurd cc
    some t (Some draws) e is same last = took-all step shape before after draws (same ∙ taken-is t draws after e last)

    go : (t : Taken) → take_draws step before shape ≡ t → Some answer ≡ option_map function (take_draws step before shape).draws → after ≡ (take_draws step before shape).last
        → TakesFront step shape before after
    go t same is last = some t t.draws refl (subst (λ (u : Taken). Some answer ≡ option_map function u.draws) same is) same (subst (λ (u : Taken). after ≡ u.last) same last)

-- want of memory
pub no-memory : {T : Type 0} (view : T → List ℕ) (result : Result T SessionFault) (reason : SessionFault) (source : Drawing) (slot : Slot (List ℕ))
    → result ≡ Err reason → reason ≡ fault.NoMemory → TakesFront source.step slot.shape source.before source.after → MakesText view result source slot
no-memory view result reason source slot e f takes = rw (e, f) takes

-- a fault is one of every slot of that shape
pub fault-made : {T : Type 0} (view : T → List ℕ) (reason : SessionFault) (source : Drawing) (slot other : Slot (List ℕ)) → slot.shape ≡ other.shape
    → MakesText view (Err reason) source slot → MakesText view (Err reason) source other
fault-made view fault.Ended source slot other same h = absurd h
fault-made view fault.DrawFault source slot other same h = subst (λ (shape : List ℕ). Gives source shape None) same h
fault-made view fault.WriteFault source slot other same h = absurd h
fault-made view fault.NoMemory source slot other same h = subst (λ (shape : List ℕ). TakesFront source.step shape source.before source.after) same h

-- a child that was opened
pub child-made : (step : List ℕ → ℕ → Turn) (state : List ℕ) (v : Value) (done : made_task.Task) (line : _) (text : List ℕ) → done ≡ task.Child line → text ≡ codes "node"
    → (draws : List ℕ) × Gives (record { step = step; before = state; after = state }) (task_shape (task_of done)) (Some draws) × (text ≡ done_text v (task_of done) draws)
unfolding take_draws
child-made step state v done line text is e = rw is ([], refl, e)

-- ---- an accepted query

settled-grant : (v : Result Grant Refusal) (work : Work) → on_ok work_of v ≡ Ok work → (grant : Grant) × (v ≡ Ok grant) × (work_of grant ≡ work)
settled-grant (Ok grant) work h = (grant, refl, cc)
settled-grant (Err refused) work h = absurd cc

settled-refusal : (v : Result Grant Refusal) (refused : Refusal) → on_ok work_of v ≡ Err refused → v ≡ Err refused
settled-refusal (Ok grant) refused h = absurd cc
settled-refusal (Err reason) refused h = cc

-- what is held of its node is what its task takes
pub work-serves : (queries : QueriesValue) (store : StoreValue) (values : ValuesValue) (past : List (List ℕ)) (line : List ℕ) (work : Work) → AreAt queries store values past
    → on_ok work_of (verdict queries.pipeline past line) ≡ Ok work → Serves store values work.node work.task
work-serves queries store values past line work at e =
    let g = settled-grant (verdict queries.pipeline past line) work e in
    subst (λ (w : Work). Serves store values w.node w.task) g.2
    (served queries.pipeline store past line values g.0 at.columns_are at.fits at.has at.values_are g.1)

-- and its value is held
pub work-value : (queries : QueriesValue) (store : StoreValue) (values : ValuesValue) (past : List (List ℕ)) (line : List ℕ) (work : Work) → AreAt queries store values past
    → on_ok work_of (verdict queries.pipeline past line) ≡ Ok work
    → value_of store.records values work.node ≡ Some (value_at (value.Rows store.records) (granted queries.pipeline past) work.node)
work-value queries store values past line work at e =
    let g = settled-grant (verdict queries.pipeline past line) work e in
    subst (λ (w : Work). value_of store.records values w.node ≡ Some (value_at (value.Rows store.records) (granted queries.pipeline past) w.node)) g.2
    (granted-value queries.pipeline store.records past line values g.0 at.values_are g.1)

-- the next number is above those of the nodes
pub next-number : (queries : QueriesValue) (store : StoreValue) (values : ValuesValue) (past : List (List ℕ)) (number answered : ℕ) → AreAt queries store values past
    → number ≡ answered → answered ≡ queries.answered + 1 → (i : ℕ) → IsSome (held_of values i) → i < number
next-number queries store values past number answered at e f i h =
    let early = held-before queries.pipeline store.records past values at.values_are i h in
    let count = at.stands.counted in
    omega (arith, early, count, e, f)

shape-is : (pipeline : Content) (root : Value) (past : List (List ℕ)) (line : List ℕ) (v : Value) (work : Work) → on_ok work_of (verdict pipeline past line) ≡ Ok work
    → (task_slot v work.task).shape ≡ (session_slot pipeline root past line).shape
shape-is pipeline root past line v work e =
    let g = settled-grant (verdict pipeline past line) work e in
    sym (ap (λ (w : Work). task_shape w.task) g.2) ∙ ap query_shape (sym g.1)

-- a fault of doing what it asks for
pub work-fault : {T : Type 0} (view : T → List ℕ) (result : Result T SessionFault) (reason given : SessionFault) (source : Drawing) (pipeline : Content) (root : Value)
    (past : List (List ℕ)) (line : List ℕ) (v : Value) (work : Work) → result ≡ Err given → given ≡ reason → on_ok work_of (verdict pipeline past line) ≡ Ok work
    → MakesText view (Err reason) source (task_slot v work.task) → MakesText view result source (session_slot pipeline root past line)
work-fault view result reason given source pipeline root past line v work e f is h =
    rw (e, f) (fault-made view reason source (task_slot v work.task) (session_slot pipeline root past line) (shape-is pipeline root past line v work is) h)

-- want of memory for its line
pub line-no_memory : {T U : Type 0} (view : T → List ℕ) (of_done : U → List ℕ) (result : Result T SessionFault) (reason : SessionFault) (done : U) (source : Drawing) (pipeline : Content) (root : Value)
    (past : List (List ℕ)) (line : List ℕ) (v : Value) (work : Work) → result ≡ Err reason → reason ≡ fault.NoMemory → on_ok work_of (verdict pipeline past line) ≡ Ok work
    → MakesText of_done (Ok done) source (task_slot v work.task) → MakesText view result source (session_slot pipeline root past line)
line-no_memory view of_done result reason done source pipeline root past line v work e f is h =
    no-memory view result reason source (session_slot pipeline root past line) e f
    (subst (λ (shape : List ℕ). TakesFront source.step shape source.before source.after) (shape-is pipeline root past line v work is)
    (took-all source.step (task_shape work.task) source.before source.after h.0 h.1))

done-is : (pipeline : Content) (root : Value) (past : List (List ℕ)) (draws : List ℕ) (node : ℕ) (t : Task)
    → done_text (value_at root (granted pipeline past) node) t draws ≡ task_text (released_text pipeline root past draws) node t
done-is pipeline root past draws node (Release release) = refl
done-is pipeline root past draws node (Child line) = refl

accepted-out : (pipeline : Content) (root : Value) (past : List (List ℕ)) (line draws : List ℕ) (work : Work) → on_ok work_of (verdict pipeline past line) ≡ Ok work
    → numbered (length past + 1) (done_text (value_at root (granted pipeline past) work.node) work.task draws ++ cost_text work.cost (root_spent pipeline (line ∷ past)))
    ≡ (session_slot pipeline root past line).out draws
accepted-out pipeline root past line draws work e =
    ap (λ (text : List ℕ). numbered (length past + 1) (text ++ cost_text work.cost (root_spent pipeline (line ∷ past)))) (done-is pipeline root past draws work.node work.task)
    ∙ ap (λ (r : Result Work Refusal). numbered (length past + 1) (verdict_text (released_text pipeline root past draws) (root_spent pipeline (line ∷ past)) r)) (sym e)

-- its line
pub line-made : {U : Type 0} (of_done : U → List ℕ) (done : U) (text : List ℕ) (source : Drawing) (pipeline : Content) (root : Value) (past : List (List ℕ)) (line : List ℕ)
    (work : Work) (number cost spent : ℕ) → on_ok work_of (verdict pipeline past line) ≡ Ok work
    → MakesText of_done (Ok done) source (task_slot (value_at root (granted pipeline past) work.node) work.task)
    → text ≡ numbered number (of_done done ++ cost_text cost spent) → number ≡ length past + 1 → cost ≡ work.cost → spent ≡ root_spent pipeline (line ∷ past)
    → (draws : List ℕ) × Gives source (session_slot pipeline root past line).shape (Some draws) × (text ≡ (session_slot pipeline root past line).out draws)
line-made of_done done text source pipeline root past line work number cost spent e h is count costs spends =
    let v = value_at root (granted pipeline past) work.node in
    let texts : text ≡ numbered (length past + 1) (done_text v work.task h.0 ++ cost_text work.cost (root_spent pipeline (line ∷ past)))
    = is ∙ rw (count, costs, spends, h.2) refl in (
      h.0,
      subst (λ (shape : List ℕ). Gives source shape (Some h.0)) (shape-is pipeline root past line v work e) h.1,
      texts ∙ accepted-out pipeline root past line h.0 work e,
    )

-- where the queries and the values are after it
pub work-at : (old new : QueriesValue) (store : StoreValue) (before after : ValuesValue) (past : List (List ℕ)) (line : List ℕ) (work : Work) (all_stay : Bool) (number : ℕ)
    → AreAt old store before past → on_ok work_of (verdict old.pipeline past line) ≡ Ok work → StandAt new (line ∷ past) → new.pipeline ≡ old.pipeline
    → all_stay ≡ siblings_open old.pipeline → number ≡ length past + 1
    → ((i : ℕ) → value_of store.records after i ≡ value_then all_stay number work.node (value_at (value.Rows store.records) (granted old.pipeline past) work.node) work.task i
    (value_of store.records before i))
    → AreHeld store.records after → AreAt new store after (line ∷ past)
work-at old new store before after past line work all_stay number at e stands same stay count each are_held =
    let g = settled-grant (verdict old.pipeline past line) work e in
    let values = λ (i : ℕ). subst (λ (w : Work). value_of store.records after i ≡ value_then (siblings_open old.pipeline) (length past + 1) w.node
    (value_at (value.Rows store.records) (granted old.pipeline past) w.node) w.task i (value_of store.records before i)) (sym g.2)
    (each i ∙ rw (stay, count) refl) in
    record {
      stands = stands;
      columns_are = at.columns_are ∙ ap (λ (p : Content). length p.columns) (sym same);
      fits = at.fits;
      has = at.has;
      values_are = subst (λ (p : Content). HoldValues p store.records (line ∷ past) after) (sym same)
          (hold-next old.pipeline store.records past line before after g.0 at.values_are g.1 values are_held);
    }

-- ---- a refused query

pub refusal-told : (reason : JudgeFault) (refused : Refusal) (wanted : Result Work Refusal) → reason ≡ judge_fault.Refused refused → MadeOr meaning_of (Err reason) wanted
    → wanted ≡ Err refused
refusal-told reason refused wanted e h = subst (λ (r : JudgeFault). MadeOr meaning_of (Err r) wanted) e h

pub refusal-stands : (reason : JudgeFault) (refused : Refusal) (P : Type 0) → reason ≡ judge_fault.Refused refused → IfSettled (Err reason) P → P
refusal-stands reason refused P e h = subst (λ (r : JudgeFault). IfSettled (Err r) P) e h

nothing : (step : List ℕ → ℕ → Turn) (before after : List ℕ) → after ≡ before → take_draws step before [] ≡ record { draws = Some []; last = after }
unfolding take_draws
nothing step before after same = taken-is (record { draws = Some []; last = before }) [] after refl same

pub refused-made : (source : Drawing) (text : List ℕ) (pipeline : Content) (root : Value) (past : List (List ℕ)) (line : List ℕ) (refused : Refusal) (number : ℕ)
    → source.after ≡ source.before → on_ok work_of (verdict pipeline past line) ≡ Err refused
    → text ≡ numbered number (codes "refused " ++ (refusal_text refused ++ codes "\n")) → number ≡ length past + 1
    → (draws : List ℕ) × Gives source (session_slot pipeline root past line).shape (Some draws) × (text ≡ (session_slot pipeline root past line).out draws)
refused-made source text pipeline root past line refused number same e is count =
    let v = settled-refusal (verdict pipeline past line) refused e in (
      [],
      subst (λ (shape : List ℕ). Gives source shape (Some [])) (ap query_shape (sym v)) (nothing source.step source.before source.after same),
      is ∙ rw count refl ∙ ap (λ (r : Result Work Refusal). numbered (length past + 1) (verdict_text (released_text pipeline root past []) (root_spent pipeline (line ∷ past)) r)) (sym e),
    )

pub refused-at : (old new : QueriesValue) (store : StoreValue) (values : ValuesValue) (past : List (List ℕ)) (line : List ℕ) (refused : Refusal)
    → AreAt old store values past → on_ok work_of (verdict old.pipeline past line) ≡ Err refused → StandAt new (line ∷ past) → new.pipeline ≡ old.pipeline
    → AreAt new store values (line ∷ past)
refused-at old new store values past line refused at e stands same = record {
  stands = stands;
  columns_are = at.columns_are ∙ ap (λ (p : Content). length p.columns) (sym same);
  fits = at.fits;
  has = at.has;
  values_are = subst (λ (p : Content). HoldValues p store.records (line ∷ past) values) (sym same)
      (hold-same old.pipeline store.records past line values refused at.values_are (settled-refusal (verdict old.pipeline past line) refused e));
}

-- ---- what is held as it is

pub plain-held : (rows : List (List (List ℕ))) (h : Held) (v : Value) → h ≡ held.Plain v → IsHeld rows h → is_rows v ≡ false
plain-held rows h v e is = subst (λ (x : Held). IsHeld rows x) e is

pub plain-has : (rows : List (List (List ℕ))) (h : Held) (v : Value) (d : Domain) → h ≡ held.Plain v → Has d (held_value rows h) → Has d v
plain-has rows h v d e has = subst (λ (x : Held). Has d (held_value rows x)) e has

-- ---- no lines

start-fault : (siblings : Bool) (root : Seat) (i : ℕ) (v : Value) (o : Option Value) → (i ≡ 0 → o ≡ Some v) → (i ≢ 0 → o ≡ None)
    → o ≡ unless_fault (find_fault siblings root [] i) v
start-fault siblings root i v o first others = elim (eqb_tells i 0) [
  | inl k ↦ first k.1 ∙ rw k.0 (free siblings)
  | inr k ↦ others k.1 ∙ rw k.0 refl
]
  where
    free : (b : Bool) → Some v ≡ unless_fault (cond b None None) v
    free true = refl
    free false = refl

start-each : (pipeline : Content) (rows : List (List (List ℕ))) (values : ValuesValue) (whole : List ℕ) → held_of values 0 ≡ Some (held.Chosen whole)
    → ((node : ℕ) → node ≢ 0 → held_of values node ≡ None) → selected rows whole ≡ rows → (i : ℕ)
    → value_of rows values i ≡ unless_fault (node_fault pipeline [] i) (value_at (value.Rows rows) (granted pipeline []) i)
unfolding granted value_at
start-each pipeline rows values whole first others all i =
    start-fault (siblings_open pipeline) (root_seat pipeline) i (value.Rows rows) (value_of rows values i)
    (λ e. ap (value_of rows values) e ∙ ap (λ (o : Option Held). option_map (held_value rows) o) first ∙ ap (λ (r : List (List (List ℕ))). Some (value.Rows r)) all)
    (λ ne. ap (λ (o : Option Held). option_map (held_value rows) o) (others i ne))

pub start-values : (pipeline : Content) (rows : List (List (List ℕ))) (values : ValuesValue) (whole : List ℕ) → held_of values 0 ≡ Some (held.Chosen whole)
    → ((node : ℕ) → node ≢ 0 → held_of values node ≡ None) → selected rows whole ≡ rows → IsSelection rows whole → HoldValues pipeline rows [] values
start-values pipeline rows values whole first others all selection = record {
  each = start-each pipeline rows values whole first others all;
  held = λ node h e. elim (eqb_tells node 0) [
    | inl k ↦ let same : ◌≡◌ {A = Option Held} (Some (held.Chosen whole)) (Some h) = sym first ∙ ap (held_of values) (sym k.1) ∙ e in
        let is : held.Chosen whole ≡ h = cc in
        subst (λ (x : Held). IsHeld rows x) is selection
    | inr k ↦ let none = others node k.1 in absurd cc
  ];
}

pub start-at : (pipeline : Content) (queries : QueriesValue) (store : StoreValue) (values : ValuesValue) (whole : List ℕ) (d : Domain) → queries.pipeline ≡ pipeline → StandAt queries []
    → store.columns ≡ length pipeline.columns → d ≡ domain.Rows store.columns → Fits d → Has d (value.Rows store.records) → HoldValues pipeline store.records [] values
    → AreAt queries store values []
start-at pipeline queries store values whole d same stands columns is fits has values_are = record {
  stands = stands;
  columns_are = columns ∙ ap (λ (p : Content). length p.columns) (sym same);
  fits = subst (λ (x : Domain). Fits x) is fits;
  has = subst (λ (x : Domain). Has x (value.Rows store.records)) is has;
  values_are = subst (λ (p : Content). HoldValues p store.records [] values) (sym same) values_are;
}

-- ---- a line that is written

pub text-at : {T : Type 0} (view : T → List ℕ) (result : Result T SessionFault) (source : Drawing) (p pipeline : Content) (rs rows : List (List (List ℕ))) (past : List (List ℕ)) (line : List ℕ)
    → p ≡ pipeline → rs ≡ rows → MakesText view result source (session_slot p (value.Rows rs) past line) → MakesText view result source (session_slot pipeline (value.Rows rows) past line)
text-at view result source p pipeline rs rows past line e f h =
    subst (λ (x : Content). MakesText view result source (session_slot x (value.Rows rows) past line)) e
    (subst (λ (x : List (List (List ℕ))). MakesText view result source (session_slot p (value.Rows x) past line)) f h)

pub write-failed : (result : Result (Unit {0}) SessionFault) (reason : SessionFault) (source : Drawing) (slot : Slot (List ℕ)) (old new : Option (List ℕ)) → result ≡ Err reason
    → reason ≡ fault.WriteFault → (draws : List ℕ) × Gives source slot.shape (Some draws) × AddsFront old new (slot.out draws) → AnswersLine result source slot old new
write-failed result reason source slot old new e f h = rw (e, f) h

-- ---- selections

plain-value : (pipeline : Content) (rows : List (List (List ℕ))) (past : List (List ℕ)) (values : ValuesValue) (node : ℕ) (v : Value) → HoldValues pipeline rows past values
    → held_of values node ≡ Some (held.Plain v) → Selects None pipeline rows past node
plain-value pipeline rows past values node v holds there = λ free.
    let is = value-held pipeline rows past values node holds free in
    let same : ◌≡◌ {A = Option Value} (Some v) (Some (value_at (value.Rows rows) (granted pipeline past) node)) = sym (ap (λ (o : Option Held). option_map (held_value rows) o) there) ∙ is in
    let value_is : v ≡ value_at (value.Rows rows) (granted pipeline past) node = cc in
    subst (λ (w : Value). is_rows w ≡ false) value_is (holds.held node (held.Plain v) there)

pub plain-selects : (queries : QueriesValue) (store : StoreValue) (values : ValuesValue) (pipeline : Content) (rows : List (List (List ℕ))) (past : List (List ℕ)) (node : ℕ) (h : Held) (v : Value)
    → AreAt queries store values past → queries.pipeline ≡ pipeline → store.records ≡ rows → held_of values node ≡ Some h → h ≡ held.Plain v → Selects None pipeline rows past node
plain-selects queries store values pipeline rows past node h v at same_pipeline same_rows there is =
    subst (λ (p : Content). Selects None p rows past node) same_pipeline
    (subst (λ (r : List (List (List ℕ))). Selects None queries.pipeline r past node) same_rows
    (plain-value queries.pipeline store.records past values node v at.values_are (there ∙ ap Some is)))
