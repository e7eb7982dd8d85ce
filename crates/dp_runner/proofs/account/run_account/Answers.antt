use Rattle.std.proofs.Common.{arith}
use Rattle.std.proofs.lemmas.Result.{err_from_is_err_and}
use Rattle.dp_io.specs.Shelf.{Files}
use Rattle.dp_pipeline.specs.declared.content.Content.{Content}
use Rattle.dp_runner.specs.declared.stop.Stop.TheVariants as stop
use Rattle.dp_runner.specs.Account.{accounted, account_outcome, account_interrupted}
use Rattle.dp_runner.specs.Answering.{account_answering, interrupted}
use Rattle.dp_runner.specs.Outcome.{Queries, or_stop, once_read}
use Rattle.dp_runner.specs.Pipelines.{pipeline_at}
use Rattle.dp_runner.proofs.AccountRuns.{runs-accounted, account-interrupted}
use Rattle.dp_runner.proofs.AccountTexts.{no_source}
use Rattle.dp_runner.proofs.Runs.{runs-unread, runs-after, interrupts-by}
use Rattle.dp_runner.proofs.WritesLast.{lines-none}
use Rattle.dp_runner.proofs.account.run_account.Goals as goal

pub returns-in_err-pipeline-clause-runs : goal.returns-in_err-pipeline-clause-runs
unfolding account_outcome
returns-in_err-pipeline-clause-runs g c = λ source.
    let p = err_from_is_err_and c.from_residual.result c.from_residual.ensures.1 in
    rw (p.1, p.2) (runs-unread c.in_err-pipeline.field-0.0 source
    (λ (files : Files) (pipeline : Content). once_read source (accounted source pipeline)
    (or_stop stop.ReadFault (files c.args.form.now.queries_name)))
    (g.S.Shelf.files c.args.shelf.now) (λ files. pipeline_at files c.args.form.now.pipeline_name) _ _ _
    (rw c.pipeline_name.ensures at c.in_err-pipeline.ensures.answers))

pub returns-in_err-account-clause-runs : goal.returns-in_err-account-clause-runs
returns-in_err-account-clause-runs g c = λ source.
    let p = err_from_is_err_and c.from_residual-in_err-account.result c.from_residual-in_err-account.ensures.1 in
    rw (p.1, p.2) (λ files is. lines-none _ _)

pub returns-clause-runs : goal.returns-clause-runs
unfolding account_outcome
returns-clause-runs g c = λ source.
    runs-after c.answer_file.result source
    (λ (files : Files) (pipeline : Content). once_read source (accounted source pipeline)
    (or_stop stop.ReadFault (files c.args.form.now.queries_name)))
    (g.S.Shelf.files c.args.shelf.now) (λ files. pipeline_at files c.args.form.now.pipeline_name) c.in_ok-pipeline.pipeline
    (g.S.Shelf.faults c.args.shelf.now) (g.S.Shelf.faults c.pipeline_of.new.shelf) (g.S.Shelf.faults c.answer_file.new.shelf) _ _ _
    (omega arith)
    (rw c.pipeline_name.ensures at c.in_ok-pipeline.ensures.answers)
    (runs-accounted c.answer_file.result source (g.S.Shelf.files c.args.shelf.now) _ c.in_ok-pipeline.pipeline c.queries_name.result.now
    c.args.form.now.queries_name _ _ _ _ _ c.in_ok-account.ensures.pipeline_is c.queries_name.ensures
    (rw c.in_ok-pipeline.ensures.same_files at c.answer_file.ensures.runs))

pub returns-clause-interrupted : goal.returns-clause-interrupted
returns-clause-interrupted g c = λ source failed opened_all.
    let form = c.args.form.now in
    let kept = c.in_ok-account.account.queries.pipeline in
    let asked : Queries = record { name = form.queries_name; interrupted = account_interrupted form } in
    interrupts-by asked (g.S.Shelf.files c.args.shelf.now) source _ _ _ _ _ _
    (λ given. interrupted no_source (account_answering kept) given)
    (λ files given is. account-interrupted form files source kept c.in_ok-pipeline.pipeline given _ _ _
    c.in_ok-account.ensures.pipeline_is
    (rw c.pipeline_name.ensures at (c.in_ok-pipeline.ensures.answers files is)))
    (rw (c.in_ok-pipeline.ensures.same_files, c.queries_name.ensures) at (c.answer_file.ensures.interrupted failed (omega arith)))
