use Rattle.std.proofs.Common.{◌∙◌, ℕ, List, Err, arith}
use Rattle.std.proofs.lemmas.Result.{err_from_is_err_and}
use Rattle.dp_draws.specs.Sources.{replay_step}
use Rattle.dp_draws.specs.Views.{numbers_left}
use Rattle.dp_io.specs.Shelf.{Files}
use Rattle.dp_runner.specs.Answering.{interrupted}
use Rattle.dp_runner.specs.Outcome.{Queries, source_at, once_read, by_own_draws}
use Rattle.dp_runner.specs.Sessions.{Opened, opened, opened_by, queried, interrupted_on, on_records, replay_by, replay_outcome}
use Rattle.dp_runner.specs.Texts.{drawn}
use Rattle.dp_runner.proofs.Runs.{runs-unread, runs-after, runs-own, own-done, done-after, interrupts-by}
use Rattle.dp_runner.proofs.sessions.run_replay.Goals as goal

pub returns-in_err-session-clause-runs : goal.returns-in_err-session-clause-runs
unfolding replay_outcome
returns-in_err-session-clause-runs g c = λ source.
    let p = err_from_is_err_and c.from_residual.result c.from_residual.ensures.1 in
    let form = c.args.form.now in
    rw (p.1, p.2) (runs-unread c.in_err-session.field-0.0 source
    (λ (files : Files) (found : Opened). once_read source
    (λ numbers. by_own_draws source (queried form.session files (source_at replay_step numbers) found)) (drawn files form.draws_name))
    (g.S.Shelf.files c.args.shelf.now) (opened form.session) _ _ _ (rw c.session-words.ensures at c.in_err-session.ensures.answers))

pub returns-in_err-replay-clause-runs : goal.returns-in_err-replay-clause-runs
unfolding replay_outcome
returns-in_err-replay-clause-runs g c = λ source.
    let p = err_from_is_err_and c.from_residual-in_err-replay.result c.from_residual-in_err-replay.ensures.1 in
    let form = c.args.form.now in
    rw (p.1, p.2) (runs-after (Err c.in_err-replay.field-0.0) source
    (λ (files : Files) (found : Opened). once_read source
    (λ numbers. by_own_draws source (queried form.session files (source_at replay_step numbers) found)) (drawn files form.draws_name))
    (g.S.Shelf.files c.args.shelf.now) (opened form.session) (opened_by c.in_ok-session.session)
    (g.S.Shelf.faults c.args.shelf.now) (g.S.Shelf.faults c.session_of.new.shelf) (g.S.Shelf.faults c.read_replay.new.shelf)
    (g.K.Sink.held c.args.out.now) (g.K.Sink.held c.args.out.now) source.state
    (omega arith) (rw c.session-words.ensures at c.in_ok-session.ensures.answers)
    (runs-unread c.in_err-replay.field-0.0 source
    (λ (files : Files) (numbers : List ℕ). by_own_draws source
    (queried form.session files (source_at replay_step numbers) (opened_by c.in_ok-session.session)))
    (g.S.Shelf.files c.args.shelf.now) (λ files. drawn files form.draws_name)
    (g.S.Shelf.faults c.session_of.new.shelf) (g.S.Shelf.faults c.read_replay.new.shelf) (g.K.Sink.held c.args.out.now)
    (rw (c.in_ok-session.ensures.same_files, c.draws_name.ensures) at c.in_err-replay.ensures.answers)))

pub returns-clause-runs : goal.returns-clause-runs
unfolding replay_outcome
returns-clause-runs g c = λ source.
    let form = c.args.form.now in
    runs-after c.answer_file.result source
    (λ (files : Files) (found : Opened). once_read source
    (λ numbers. by_own_draws source (queried form.session files (source_at replay_step numbers) found)) (drawn files form.draws_name))
    (g.S.Shelf.files c.args.shelf.now) (opened form.session) (opened_by c.in_ok-session.session)
    (g.S.Shelf.faults c.args.shelf.now) (g.S.Shelf.faults c.session_of.new.shelf) (g.S.Shelf.faults c.answer_file.new.shelf) _ _ _
    (omega arith) (rw c.session-words.ensures at c.in_ok-session.ensures.answers)
    (runs-after c.answer_file.result source
    (λ (files : Files) (numbers : List ℕ). by_own_draws source
    (queried form.session files (source_at replay_step numbers) (opened_by c.in_ok-session.session)))
    (g.S.Shelf.files c.args.shelf.now) (λ files. drawn files form.draws_name) (numbers_left c.in_ok-replay.replay)
    (g.S.Shelf.faults c.session_of.new.shelf) (g.S.Shelf.faults c.read_replay.new.shelf) (g.S.Shelf.faults c.answer_file.new.shelf) _ _ _
    (omega arith) (rw (c.in_ok-session.ensures.same_files, c.draws_name.ensures) at c.in_ok-replay.ensures.answers)
    (runs-own c.answer_file.result source (g.S.Shelf.files c.args.shelf.now)
    (λ files. queried form.session files (source_at replay_step (numbers_left c.in_ok-replay.replay))
    (opened_by c.in_ok-session.session)) _ _ _ _ _
    (rw (c.in_ok-replay.ensures.same_files, c.in_ok-session.ensures.same_files, c.queries_name.ensures, c.session-words.ensures) at
    c.answer_file.ensures.runs)))

pub returns-clause-interrupted : goal.returns-clause-interrupted
returns-clause-interrupted g c = λ source failed opened_all.
    let form = c.args.form.now in
    let found = opened_by c.in_ok-session.session in
    let own = source_at replay_step (numbers_left c.in_ok-replay.replay) in
    let asked : Queries = record {
      name = form.session.queries_name;
      interrupted = λ files s given. replay_by (interrupted_on given) form files s;
    } in
    interrupts-by asked (g.S.Shelf.files c.args.shelf.now) source _ _ _ _ _ _ (λ given. interrupted own (on_records found) given)
    (λ files given is h. done-after source
    (λ (o : Opened). once_read source (λ numbers. by_own_draws source (interrupted_on given (source_at replay_step numbers) o))
    (drawn files form.draws_name))
    (opened form.session files) found _ _ _ _
    (rw c.session-words.ensures at (c.in_ok-session.ensures.answers files is))
    (done-after source (λ (numbers : List ℕ). by_own_draws source (interrupted_on given (source_at replay_step numbers) found))
    (drawn files form.draws_name) (numbers_left c.in_ok-replay.replay) _ _ _ _
    (rw c.draws_name.ensures at (c.in_ok-replay.ensures.answers files (c.in_ok-session.ensures.same_files ∙ is)))
    (own-done source (interrupted own (on_records found) given) _ _ _ _ h)))
    (rw (c.in_ok-replay.ensures.same_files, c.in_ok-session.ensures.same_files, c.queries_name.ensures, c.session-words.ensures) at
    (c.answer_file.ensures.interrupted failed (omega arith)))
