-- What a run of `account` does, from what it reads and what it answers.
use Rattle.std.proofs.Common.{◌≡◌, ◌∙◌, ◌^◌, ℕ, false, List, [], ◌++◌, length, Option, Some, Result, Ok, refl, ap, arith, subst}
use Rattle.dp_io.specs.Lines.{lines_of, has_line_over, ended_lines}
use Rattle.dp_io.specs.Shelf.{Files}
use Rattle.dp_io.proofs.TextLines.{within-all}
use Rattle.dp_pipeline.specs.declared.content.Content.{Content}
use Rattle.dp_pipeline.specs.Accepted.{accepted}
use Rattle.dp_session.specs.QueryLines.{account_lines, end_line}
use Rattle.dp_session.specs.Verdicts.{units}
use Rattle.dp_runner.specs.declared.form.Form.TheVariants as form
use Rattle.dp_runner.specs.declared.stop.Stop.{Stop}
use Rattle.dp_runner.specs.declared.stop.Stop.TheVariants as stop
use Rattle.dp_runner.specs.Account.{AccountForm, accounted, account_outcome, account_interrupted}
use Rattle.dp_runner.specs.Answering.{account_answering, file_answered, interrupted}
use Rattle.dp_runner.specs.Causes.{HasDone, Runs}
use Rattle.dp_runner.specs.Forms.{form_of, outcome}
use Rattle.dp_runner.specs.Laws.{IsDone}
use Rattle.dp_runner.specs.Outcome.{Source, Outcome, or_stop, once_read, by_own_draws}
use Rattle.dp_runner.specs.Pipelines.{pipeline_at}
use Rattle.dp_runner.proofs.AccountTexts.{no_source, file-accounted, account-cut}
use Rattle.dp_runner.proofs.FormRuns.{form-done}
use Rattle.dp_runner.proofs.PipelineSteps.{pipeline-read}
use Rattle.dp_runner.proofs.Runs.{runs-same, runs-own, own-done, done-after}

-- the queries of a file, where the account has this pipeline and the file this name
pub runs-accounted : (result : Result (Unit {0}) Stop) (source : Source) (told : Option Files) (kept pipeline : Content)
    (name queries : List ℕ)
    (before now : ℕ) (old new : Option (List ℕ)) (last : List ℕ) → kept ≡ pipeline → name ≡ queries
    → Runs result told (λ files. file_answered no_source (account_answering kept) files name) before now old new last
    → Runs result told (λ files. once_read source (accounted source pipeline) (or_stop stop.ReadFault (files queries))) before now old
    new source.state
runs-accounted result source told kept pipeline name queries before now old new last same same_name h =
    runs-same result told (λ files. by_own_draws source (file_answered no_source (account_answering kept) files name))
    (λ files. once_read source (accounted source pipeline) (or_stop stop.ReadFault (files queries)))
    before before now old new source.state (omega arith)
    (λ files e. file-accounted source kept (files name)
    ∙ ap (λ (p : Content). once_read source (accounted source p) (or_stop stop.ReadFault (files name))) same
    ∙ ap (λ (n : List ℕ). once_read source (accounted source pipeline) (or_stop stop.ReadFault (files n))) same_name)
    (runs-own result source told (λ files. file_answered no_source (account_answering kept) files name) before now old new last h)

-- the queries of which this much was given, where the account has the pipeline of the file
pub account-interrupted : (form : AccountForm) (files : Files) (source : Source) (kept pipeline : Content) (given : List ℕ)
    (old new : Option (List ℕ)) (last : List ℕ) → kept ≡ pipeline → pipeline_at files form.pipeline_name ≡ Ok pipeline
    → HasDone (interrupted no_source (account_answering kept) given) (Some stop.ReadFault) old new last
    → HasDone (account_interrupted form files source given) (Some stop.ReadFault) old new source.state
account-interrupted form files source kept pipeline given old new last same read h =
    let lines : Content → Outcome = λ p. record {
      bytes = account_lines p [] (ended_lines given);
      stop = Some stop.ReadFault;
      last = source.state;
    } in
    done-after source lines (pipeline_at files form.pipeline_name) pipeline (Some stop.ReadFault) old new source.state read
    (subst (λ (p : Content). HasDone (lines p) (Some stop.ReadFault) old new source.state) same
    (subst (λ (o : Outcome). HasDone o (Some stop.ReadFault) old new source.state) (account-cut source kept given)
    (own-done source (interrupted no_source (account_answering kept) given) (Some stop.ReadFault) old new last h)))

-- ---- the law

accounted-all : (source : Source) (pipeline : Content) (text : List ℕ) → has_line_over (2 ^ 20) text ≡ false
    → IsDone (accounted source pipeline text) (account_lines pipeline [] (lines_of text) ++ end_line (length (lines_of text))
    (units pipeline (lines_of text))) source.state
unfolding accounted
accounted-all source pipeline text none =
    rw (none, within-all (2 ^ 20) text none) (record { bytes_are = refl; stop_is = refl; last_is = refl })

account-complete : (form : AccountForm) (files : Files) (source : Source) (text queries : List ℕ) (content : Content)
    → files form.pipeline_name ≡ Some text → accepted text ≡ Ok content → files form.queries_name ≡ Some queries
    → account_outcome form files source ≡ accounted source content queries
unfolding account_outcome
account-complete form files source text queries content has_text is_pipeline has_queries =
    ap (once_read source (λ pipeline. once_read source (accounted source pipeline) (or_stop stop.ReadFault (files form.queries_name))))
    (pipeline-read files form.pipeline_name text content has_text is_pipeline)
    ∙ ap (λ found. once_read source (accounted source content) (or_stop stop.ReadFault found)) has_queries

pub account-done : (words : List (List ℕ)) (files : Files) (source : Source) (account : AccountForm) (text queries : List ℕ)
    (content : Content)
    → form_of words ≡ Some (form.Account account) → files account.pipeline_name ≡ Some text → accepted text ≡ Ok content
    → files account.queries_name ≡ Some queries → has_line_over (2 ^ 20) queries ≡ false
    → IsDone (outcome words files source)
    (account_lines content [] (lines_of queries) ++ end_line (length (lines_of queries)) (units content (lines_of queries))) source.state
account-done words files source account text queries content is has_text is_pipeline has_queries none =
    form-done words (form.Account account) files source _ source.state is
    (rw (account-complete account files source text queries content has_text is_pipeline has_queries)
    (accounted-all source content queries none))
