-- What a run that answers queries on data reads, and the draws that it takes.
use Rattle.std.proofs.Common.{◌≡◌, ◌≢◌, ◌∙◌, ◌<◌, ◌≤◌, ◌^◌, ℕ, List, Option, Result, Ok, Err, refl, sym, ap, arith, subst}
use Rattle.std.specs.Option.{ForSome}
use Rattle.dp_count.specs.Faults.{Rose}
use Rattle.dp_draws.specs.Taking.{Turn}
use Rattle.dp_io.specs.Shelf.{Files}
use Rattle.dp_law.specs.Releasing.{TakesFront}
use Rattle.dp_pipeline.specs.declared.content.Content.{Content}
use Rattle.dp_session.specs.Sessions.{SessionValue, IsSessionAt}
use Rattle.dp_store.specs.Stores.{StoreValue}
use Rattle.dp_runner.specs.declared.stop.Stop.{Stop}
use Rattle.dp_runner.specs.declared.stop.Stop.TheVariants as stop
use Rattle.dp_runner.specs.Answering.{file_shape}
use Rattle.dp_runner.specs.Pipelines.{pipeline_at}
use Rattle.dp_runner.specs.Sessions.{SessionForm, Opened, stored, opened_by, file_records, opened_at, opened, on_records, shape_on, form_shape}
use Rattle.dp_runner.proofs.Steps.{bind-ok, bind-err}

-- the pipeline's file decides
pub opened-no_pipeline : (pipeline_name data_name : List ℕ) (files : Files) (reason : Stop)
    → pipeline_at files pipeline_name ≡ Err reason → opened_at pipeline_name data_name files ≡ Err reason
unfolding opened_at
opened-no_pipeline pipeline_name data_name files reason fails = bind-err (pipeline_at files pipeline_name) _ reason fails

-- the file of the data decides
pub opened-data : (pipeline_name data_name : List ℕ) (files : Files) (pipeline : Content)
    → pipeline_at files pipeline_name ≡ Ok pipeline
    → opened_at pipeline_name data_name files ≡ file_records files data_name pipeline
unfolding opened_at
opened-data pipeline_name data_name files pipeline read =
    bind-ok (pipeline_at files pipeline_name) (λ p. file_records files data_name p) pipeline read

-- the session has both
pub opened-both : (session : SessionValue) (pipeline : Content) (store : StoreValue) (past : List (List ℕ))
    → IsSessionAt session pipeline store.records past → stored pipeline store ≡ opened_by session
opened-both session pipeline store past h =
    ap (λ (p : Content). stored p store) (sym h.pipeline_is)
    ∙ ap (λ (rows : List (List (List ℕ))). let both : Opened = record { pipeline = session.queries.pipeline; rows = rows } in both)
    (sym h.records_are)

-- the draws of the queries are those of the run
pub run-taken : (step : List ℕ → ℕ → Turn) (before after : List ℕ) (form : SessionForm) (told : Option Files) (found : Opened)
    → ForSome told (λ files. opened form files ≡ Ok found)
    → ForSome told (λ files. TakesFront step (file_shape (on_records found) files form.queries_name) before after)
    → ForSome told (λ files. TakesFront step (form_shape form files) before after)
unfolding form_shape
run-taken step before after form told found read h = λ files is.
    subst (λ shape. TakesFront step shape before after) (sym (ap (shape_on form files) (read files is))) (h files is)

-- a count that rose, or stayed, did not fall
pub never-falls : (result : Result (Unit {0}) Stop) (before now : ℕ) → (result ≡ Err stop.DrawFault → Rose before now)
    → (result ≢ Err stop.DrawFault → now ≡ before) → before < 2 ^ 64 → before ≤ now
never-falls (Ok done) before now rose kept few = let same = kept (λ e. absurd (cc)) in omega arith
never-falls (Err stop.DrawFault) before now rose kept few = let r = rose refl in omega arith
never-falls (Err reason) before now rose kept few = let same = kept (λ e. absurd (cc)) in omega arith
