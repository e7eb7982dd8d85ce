use Rattle.std.proofs.Common.{ap, arith, Err}
use Rattle.std.proofs.lemmas.Result.{err_from_is_err_and}
use Rattle.dp_pipeline.specs.Printing.{check_text}
use Rattle.dp_runner.specs.Check.{check_written}
use Rattle.dp_runner.specs.Pipelines.{pipeline_at}
use Rattle.dp_runner.proofs.CheckRuns.{check-lines, check-no_pipeline, check-pipeline}
use Rattle.dp_runner.proofs.Steps.{reason-carries}
use Rattle.dp_runner.proofs.WritesLast.{runs-reason, runs-all, lines-none}
use Rattle.dp_runner.proofs.check.run_check.Goals as goal

pub returns-in_err-pipeline-clause-runs : goal.returns-in_err-pipeline-clause-runs
returns-in_err-pipeline-clause-runs g c = λ source.
    let p = err_from_is_err_and c.from_residual.result c.from_residual.ensures.1 in
    let written = reason-carries c.in_err-pipeline.field-0.0 _ (λ files. pipeline_at files c.pipeline_name.result.now)
    (check_written c.args.form.now) _ _ _ _
    (λ files is h. check-no_pipeline c.args.form.now files _ _ c.pipeline_name.ensures h) (omega arith) (omega arith)
    c.in_err-pipeline.ensures.answers in
    rw (p.1, p.2) (runs-reason c.in_err-pipeline.field-0.0 source _ (check_written c.args.form.now) _ _ _ written)

pub returns-in-Ok-clause-runs : goal.returns-in-Ok-clause-runs
returns-in-Ok-clause-runs g c = λ source.
    runs-all source _ (check_written c.args.form.now) (g.S.Shelf.faults c.args.shelf.now) (g.S.Shelf.faults c.pipeline_of.new.shelf) _ _
    (check_text c.in_ok-pipeline.pipeline)
    (λ files is. check-pipeline c.args.form.now files _ _ c.pipeline_name.ensures (c.in_ok-pipeline.ensures.answers files is))
    (λ files is. check-lines c.in_ok-pipeline.pipeline) c.in-Ok.ensures.written

pub returns-clause-runs : goal.returns-clause-runs
returns-clause-runs g c = λ source files is.
    let same = ap g.K.Sink.held (c.in-Err-NoMemory.ensures.nothing (ap Err c.in-Err-NoMemory.field-0-is)) in
    rw same (lines-none _ (g.K.Sink.held c.args.out.now))
