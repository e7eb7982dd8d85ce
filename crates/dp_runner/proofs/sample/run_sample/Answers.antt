use Rattle.std.proofs.Common.{◌∙◌}
use Rattle.std.proofs.lemmas.Result.{err_from_is_err_and}
use Rattle.dp_runner.specs.Sessions.{opened_by}
use Rattle.dp_runner.proofs.SampleRuns.{sample-runs, sample-front}
use Rattle.dp_runner.proofs.WritesLast.{lines-none}
use Rattle.dp_runner.proofs.sample.run_sample.Goals as goal

pub returns-in_err-session-clause-runs : goal.returns-in_err-session-clause-runs
returns-in_err-session-clause-runs g c = λ source told faults.
    let p = err_from_is_err_and c.from_residual.result c.from_residual.ensures.1 in
    rw (p.1, p.2) (λ files is. lines-none _ _)

pub returns-in_err-line-clause-runs : goal.returns-in_err-line-clause-runs
returns-in_err-line-clause-runs g c = λ source told faults.
    let p = err_from_is_err_and c.from_residual-in_err-line.result c.from_residual-in_err-line.ensures.1 in
    rw (p.1, p.2) (λ files is. lines-none _ _)

pub returns-in_err-write_lines-clause-runs : goal.returns-in_err-write_lines-clause-runs
returns-in_err-write_lines-clause-runs g c = λ source told faults.
    let p = err_from_is_err_and c.from_residual-in_err-write_lines.result c.from_residual-in_err-write_lines.ensures.1 in
    rw (p.1, p.2, c.in_err-write_lines.ensures.only)
    (sample-front c.args.records c.as_bytes.result.now source told faults _ _
    (c.as_bytes.ensures.value ∙ c.in_ok-line.ensures) c.in_err-write_lines.ensures.front)

pub returns-clause-runs : goal.returns-clause-runs
returns-clause-runs g c = λ source told faults.
    sample-runs c.answer_queries.result c.args.records (opened_by c.in_ok-session.session) c.as_bytes.result.now source told faults _ _ _ _
    c.in_ok-session.ensures.opened (c.as_bytes.ensures.value ∙ c.in_ok-line.ensures) c.in_ok-write_lines.ensures.written
    c.answer_queries.ensures.runs
