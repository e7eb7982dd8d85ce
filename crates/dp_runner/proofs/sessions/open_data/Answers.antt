use Rattle.std.proofs.Common.{◌∙◌, arith, ap, Ok}
use Rattle.std.proofs.lemmas.Result.{err_from_is_err_and}
use Rattle.dp_runner.specs.Pipelines.{pipeline_at}
use Rattle.dp_runner.specs.Sessions.{file_records, opened_at}
use Rattle.dp_runner.proofs.SessionRuns.{opened-no_pipeline, opened-data}
use Rattle.dp_runner.proofs.Steps.{reason-carries}
use Rattle.dp_runner.proofs.sessions.open_data.Goals as goal

pub returns-in_err-pipeline-clause-answers : goal.returns-in_err-pipeline-clause-answers
returns-in_err-pipeline-clause-answers g c =
    let pipeline_name = c.args.pipeline_name.now in
    let data_name = c.args.data_name.now in
    let p = err_from_is_err_and c.from_residual.result c.from_residual.ensures.1 in
    rw (p.1, p.2) (reason-carries c.in_err-pipeline.field-0.0 _ (λ files. pipeline_at files pipeline_name)
    (opened_at pipeline_name data_name) _ _ _ _
    (λ files is h. opened-no_pipeline pipeline_name data_name files _ h) (omega arith) (omega arith)
    c.in_err-pipeline.ensures.answers)

pub returns-in_err-store-clause-answers : goal.returns-in_err-store-clause-answers
returns-in_err-store-clause-answers g c =
    let pipeline_name = c.args.pipeline_name.now in
    let data_name = c.args.data_name.now in
    let p = err_from_is_err_and c.from_residual-in_err-store.result c.from_residual-in_err-store.ensures.1 in
    let early = c.in_ok-pipeline.ensures.later in
    rw (p.1, p.2) (reason-carries c.in_err-store.field-0.0 (g.S.Shelf.files c.args.shelf.now)
    (λ files. file_records files data_name c.in_ok-pipeline.pipeline) (opened_at pipeline_name data_name)
    (g.S.Shelf.faults c.args.shelf.now) (g.S.Shelf.faults c.pipeline_of.new.shelf) (g.S.Shelf.faults c.records_of.new.shelf)
    (g.S.Shelf.faults c.records_of.new.shelf)
    (λ files is h.
    opened-data pipeline_name data_name files c.in_ok-pipeline.pipeline (c.in_ok-pipeline.ensures.answers files is) ∙ h)
    early (omega arith) (rw c.in_ok-pipeline.ensures.same_files at c.in_err-store.ensures.answers))

pub returns-clause-answers : goal.returns-clause-answers
returns-clause-answers g c = λ files is.
    opened-data c.args.pipeline_name.now c.args.data_name.now files c.in_ok-pipeline.pipeline
    (c.in_ok-pipeline.ensures.answers files is)
    ∙ c.in_ok-store.ensures.answers files (c.in_ok-pipeline.ensures.same_files ∙ is)
