use Rattle.std.proofs.Common.{arith, refl, Err}
use Rattle.std.specs.Prelude.{codes}
use Rattle.std.proofs.lemmas.Result.{err_from_is_err_and}
use Rattle.dp_io.specs.Shelf.{Files}
use Rattle.dp_runner.specs.declared.stop.Stop.TheVariants as stop
use Rattle.dp_runner.specs.Answering.{interrupted}
use Rattle.dp_runner.specs.Outcome.{Queries, by_own_draws, preceded_by}
use Rattle.dp_runner.specs.Sessions.{Opened, opened, opened_by, queried, interrupted_on, on_records, seeded, rehearse_by, rehearse_outcome}
use Rattle.dp_runner.proofs.Runs.{runs-unread, runs-after, runs-own, runs-preceded, front-before, own-done, preceded-done, done-after, interrupts-by}
use Rattle.dp_runner.proofs.sessions.run_rehearse.Goals as goal

pub returns-in_err-session-clause-runs : goal.returns-in_err-session-clause-runs
unfolding rehearse_outcome
returns-in_err-session-clause-runs g c = λ source.
    let p = err_from_is_err_and c.from_residual.result c.from_residual.ensures.1 in
    let form = c.args.form.now in
    rw (p.1, p.2) (runs-unread c.in_err-session.field-0.0 source
    (λ (files : Files) (found : Opened). by_own_draws source
    (preceded_by (codes "rehearsal\n") (queried form.session files (seeded form.seed) found)))
    (g.S.Shelf.files c.args.shelf.now) (opened form.session) _ _ _ (rw c.session-words.ensures at c.in_err-session.ensures.answers))

pub returns-in_err-write_lines-clause-runs : goal.returns-in_err-write_lines-clause-runs
unfolding rehearse_outcome
returns-in_err-write_lines-clause-runs g c = λ source.
    let p = err_from_is_err_and c.from_residual-in_err-write_lines.result c.from_residual-in_err-write_lines.ensures.1 in
    let form = c.args.form.now in
    rw (p.1, p.2, c.in_err-write_lines.ensures.only) (runs-after (Err stop.WriteFault) source
    (λ (files : Files) (found : Opened). by_own_draws source
    (preceded_by (codes "rehearsal\n") (queried form.session files (seeded form.seed) found)))
    (g.S.Shelf.files c.args.shelf.now) (opened form.session) (opened_by c.in_ok-session.session)
    (g.S.Shelf.faults c.args.shelf.now) (g.S.Shelf.faults c.session_of.new.shelf) (g.S.Shelf.faults c.session_of.new.shelf)
    (g.K.Sink.held c.args.out.now) (g.K.Sink.held c.write_lines.new.out) source.state
    (omega arith) (rw c.session-words.ensures at c.in_ok-session.ensures.answers)
    (λ files is. front-before (codes "rehearsal\n")
    (queried form.session files (seeded form.seed) (opened_by c.in_ok-session.session)).bytes _ _
    c.in_err-write_lines.ensures.front))

pub returns-clause-runs : goal.returns-clause-runs
unfolding rehearse_outcome
returns-clause-runs g c = λ source.
    let form = c.args.form.now in
    runs-after c.answer_file.result source
    (λ (files : Files) (found : Opened). by_own_draws source
    (preceded_by (codes "rehearsal\n") (queried form.session files (seeded form.seed) found)))
    (g.S.Shelf.files c.args.shelf.now) (opened form.session) (opened_by c.in_ok-session.session)
    (g.S.Shelf.faults c.args.shelf.now) (g.S.Shelf.faults c.session_of.new.shelf) (g.S.Shelf.faults c.answer_file.new.shelf) _ _ _
    (omega arith) (rw c.session-words.ensures at c.in_ok-session.ensures.answers)
    (runs-own c.answer_file.result source (g.S.Shelf.files c.args.shelf.now)
    (λ files. preceded_by (codes "rehearsal\n") (queried form.session files (seeded form.seed) (opened_by c.in_ok-session.session))) _
    _ _ _ _
    (runs-preceded c.answer_file.result (codes "rehearsal\n") (g.S.Shelf.files c.args.shelf.now)
    (λ files. queried form.session files (seeded form.seed) (opened_by c.in_ok-session.session)) _ _ _ _ _ _
    c.in_ok-write_lines.ensures.written refl
    (rw (
      c.in_ok-session.ensures.same_files,
      c.queries_name.ensures,
      c.session-words.ensures,
      c.new-draws.ensures.state,
      c.seed_bytes.ensures,
      c.seed.ensures,
    )
    at c.answer_file.ensures.runs)))

pub returns-clause-interrupted : goal.returns-clause-interrupted
returns-clause-interrupted g c = λ source failed opened_all.
    let form = c.args.form.now in
    let found = opened_by c.in_ok-session.session in
    let own = seeded form.seed in
    let asked : Queries = record {
      name = form.session.queries_name;
      interrupted = λ files s given. rehearse_by (interrupted_on given) form files s;
    } in
    interrupts-by asked (g.S.Shelf.files c.args.shelf.now) source _ _ _ _ _ _ (λ given. interrupted own (on_records found) given)
    (λ files given is h. done-after source
    (λ (o : Opened). by_own_draws source (preceded_by (codes "rehearsal\n") (interrupted_on given own o)))
    (opened form.session files) found _ _ _ _
    (rw c.session-words.ensures at (c.in_ok-session.ensures.answers files is))
    (own-done source (preceded_by (codes "rehearsal\n") (interrupted own (on_records found) given)) _ _ _ _
    (preceded-done (codes "rehearsal\n") (interrupted own (on_records found) given) _ _ _ _ _
    c.in_ok-write_lines.ensures.written refl h)))
    (rw (
      c.in_ok-session.ensures.same_files,
      c.queries_name.ensures,
      c.session-words.ensures,
      c.new-draws.ensures.state,
      c.seed_bytes.ensures,
      c.seed.ensures,
    )
    at (c.answer_file.ensures.interrupted failed (omega arith)))
