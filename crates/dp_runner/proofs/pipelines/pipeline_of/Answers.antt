use Rattle.std.proofs.Common.{◌∙◌, ap, arith}
use Rattle.std.proofs.lemmas.Result.{err_from_is_err_and}
use Rattle.dp_runner.specs.Pipelines.{pipeline_text, pipeline_at, or_refused}
use Rattle.dp_runner.proofs.PipelineSteps.{pipeline-no_text, pipeline-text, pipeline-refused}
use Rattle.dp_runner.proofs.Steps.{reason-carries}
use Rattle.dp_runner.proofs.pipelines.pipeline_of.Goals as goal

pub returns-in_err-text-clause-answers : goal.returns-in_err-text-clause-answers
returns-in_err-text-clause-answers g c =
    let p = err_from_is_err_and c.from_residual.result c.from_residual.ensures.1 in
    rw (p.1, p.2) (reason-carries c.in_err-text.field-0.0 _ (λ files. pipeline_text files c.args.name.now)
    (λ files. pipeline_at files c.args.name.now) _ _ _ _
    (λ files is h. pipeline-no_text files c.args.name.now _ h) (omega arith) (omega arith) c.in_err-text.ensures.answers)

pub returns-in_err-read_pipeline-clause-answers : goal.returns-in_err-read_pipeline-clause-answers
returns-in_err-read_pipeline-clause-answers g c =
    let p = err_from_is_err_and c.from_residual-in_err-read_pipeline.result c.from_residual-in_err-read_pipeline.ensures.1 in
    rw (p.1, p.2) (pipeline-refused c.in_err-read_pipeline.field-0.0 (g.S.Shelf.files c.args.shelf.now) c.args.name.now c.in_ok-text.text.items _ _
    c.in_ok-text.ensures.answers (rw c.as_slice.ensures.value at c.in_err-read_pipeline.ensures.answers))

pub returns-clause-answers : goal.returns-clause-answers
returns-clause-answers g c = λ files is.
    pipeline-text files c.args.name.now c.in_ok-text.text.items (c.in_ok-text.ensures.answers files is)
    ∙ ap or_refused (rw c.as_slice.ensures.value at c.in_ok-read_pipeline.ensures.answers)
