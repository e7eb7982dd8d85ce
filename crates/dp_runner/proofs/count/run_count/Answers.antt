use Rattle.std.proofs.Common.{◌∙◌, ap}
use Rattle.std.specs.Prelude.{string_bytes}
use Rattle.std.proofs.lemmas.Result.{err_from_is_err_and}
use Rattle.dp_io.specs.Sink.{appended}
use Rattle.dp_runner.specs.Count.{count_written}
use Rattle.dp_runner.proofs.CountRuns.{count-wrote}
use Rattle.dp_runner.proofs.WritesLast.{runs-reason, runs-front}
use Rattle.dp_runner.proofs.count.run_count.Goals as goal

pub returns-in_err-line-clause-runs : goal.returns-in_err-line-clause-runs
returns-in_err-line-clause-runs g c = λ source.
    let p = err_from_is_err_and c.from_residual.result c.from_residual.ensures.1 in
    rw (p.1, p.2) (runs-reason c.in_err-line.field-0.0 source _ (count_written c.args.form.now) _ _ _ c.in_err-line.ensures.answers)

pub returns-in-Ok-clause-runs : goal.returns-in-Ok-clause-runs
returns-in-Ok-clause-runs g c = λ source.
    count-wrote c.args.form.now source _ (g.S.Shelf.faults c.args.shelf.now) (g.S.Shelf.faults c.answer_line.new.shelf) _ _ (string_bytes c.in_ok-line.line) c.in_ok-line.ensures.answers (c.in-Ok.ensures.written ∙ ap (appended (g.K.Sink.held c.args.out.now)) c.as_bytes.ensures.value)

pub returns-clause-runs : goal.returns-clause-runs
returns-clause-runs g c = λ source.
    runs-front source _ (count_written c.args.form.now) (g.S.Shelf.faults c.args.shelf.now) (g.S.Shelf.faults c.answer_line.new.shelf) _ _ (string_bytes c.in_ok-line.line) c.in_ok-line.ensures.answers (rw c.as_bytes.ensures.value at c.in-Err.ensures.front)
