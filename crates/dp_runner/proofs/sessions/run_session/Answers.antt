use Rattle.std.proofs.Common.{arith}
use Rattle.std.proofs.lemmas.Result.{err_from_is_err_and}
use Rattle.dp_io.specs.Shelf.{Files}
use Rattle.dp_runner.specs.Answering.{interrupted}
use Rattle.dp_runner.specs.Outcome.{Queries, source_at}
use Rattle.dp_runner.specs.Sessions.{Opened, opened, opened_by, queried, interrupted_on, on_records, run_by, run_outcome, form_shape}
use Rattle.dp_runner.proofs.FileRuns.{none-taken}
use Rattle.dp_runner.proofs.Runs.{runs-unread, runs-after, done-after, interrupts-by}
use Rattle.dp_runner.proofs.SessionRuns.{run-taken}
use Rattle.dp_runner.proofs.sessions.run_session.Goals as goal

pub returns-in_err-session-clause-runs : goal.returns-in_err-session-clause-runs
unfolding run_outcome
returns-in_err-session-clause-runs g c =
    let p = err_from_is_err_and c.from_residual.result c.from_residual.ensures.1 in
    let source = source_at g.D.Draws.step (g.D.Draws.state c.args.draws.now) in
    rw (p.1, p.2) (runs-unread c.in_err-session.field-0.0 source
    (λ (files : Files) (found : Opened). queried c.args.form.now files source found)
    (g.S.Shelf.files c.args.shelf.now) (opened c.args.form.now) _ _ _ c.in_err-session.ensures.answers)

pub returns-in_err-session-clause-taken : goal.returns-in_err-session-clause-taken
returns-in_err-session-clause-taken g c = λ other files is.
    none-taken g.D.Draws.step (form_shape c.args.form.now files) (g.D.Draws.state c.args.draws.now)

pub returns-clause-runs : goal.returns-clause-runs
unfolding run_outcome
returns-clause-runs g c =
    let source = source_at g.D.Draws.step (g.D.Draws.state c.args.draws.now) in
    runs-after c.answer_file.result source (λ (files : Files) (found : Opened). queried c.args.form.now files source found)
    (g.S.Shelf.files c.args.shelf.now) (opened c.args.form.now) (opened_by c.in_ok-session.session)
    (g.S.Shelf.faults c.args.shelf.now) (g.S.Shelf.faults c.session_of.new.shelf) (g.S.Shelf.faults c.answer_file.new.shelf) _ _ _
    (omega arith) c.in_ok-session.ensures.answers
    (rw (c.in_ok-session.ensures.same_files, c.queries_name.ensures) at c.answer_file.ensures.runs)

pub returns-clause-taken : goal.returns-clause-taken
returns-clause-taken g c = λ other.
    run-taken g.D.Draws.step (g.D.Draws.state c.args.draws.now) _ c.args.form.now (g.S.Shelf.files c.args.shelf.now)
    (opened_by c.in_ok-session.session)
    c.in_ok-session.ensures.answers
    (rw (c.in_ok-session.ensures.same_files, c.queries_name.ensures) at (c.answer_file.ensures.taken other))

pub returns-clause-interrupted : goal.returns-clause-interrupted
returns-clause-interrupted g c = λ failed opened_all.
    let source = source_at g.D.Draws.step (g.D.Draws.state c.args.draws.now) in
    let form = c.args.form.now in
    let found = opened_by c.in_ok-session.session in
    let asked : Queries = record {
      name = form.queries_name;
      interrupted = λ files s given. run_by (interrupted_on given) form files s;
    } in
    interrupts-by asked (g.S.Shelf.files c.args.shelf.now) source _ _ _ _ _ _ (λ given. interrupted source (on_records found) given)
    (λ files given is. done-after source (interrupted_on given source) (opened form files) found _ _ _ _
    (c.in_ok-session.ensures.answers files is))
    (rw (c.in_ok-session.ensures.same_files, c.queries_name.ensures) at (c.answer_file.ensures.interrupted failed (omega arith)))
