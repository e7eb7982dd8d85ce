use Rattle.std.proofs.Common.{arith, sym}
use Rattle.std.proofs.lemmas.Result.{err_from_is_err_and}
use Rattle.dp_io.specs.Shelf.{Files}
use Rattle.dp_runner.specs.OneRelease.{slot_outcome, release_outcome, release_shape}
use Rattle.dp_runner.specs.Outcome.{source_at}
use Rattle.dp_runner.specs.Sessions.{Opened, opened_at, stored}
use Rattle.dp_runner.proofs.FileRuns.{none-taken}
use Rattle.dp_runner.proofs.ReleaseRuns.{release-taken}
use Rattle.dp_runner.proofs.Runs.{runs-unread, runs-after}
use Rattle.dp_runner.proofs.release.run_release.Goals as goal

pub returns-in_err-pipeline-clause-runs : goal.returns-in_err-pipeline-clause-runs
unfolding release_outcome
returns-in_err-pipeline-clause-runs g c =
    let p = err_from_is_err_and c.from_residual.result c.from_residual.ensures.1 in
    let source = source_at g.D.Draws.step (g.D.Draws.state c.args.draws.now) in
    let names = g.R.OneRelease.names c.args.release.now in
    rw (p.1, p.2) (runs-unread c.in_err-pipeline.field-0.0 source
    (λ (files : Files) (found : Opened). slot_outcome source (g.R.OneRelease.slot c.args.release.now found))
    (g.S.Shelf.files c.args.shelf.now) (opened_at names.pipeline_name names.data_name) _ _ _
    (rw (c.pipeline_name.ensures, c.data_name.ensures, c.names-names.ensures) at c.in_err-pipeline.ensures.answers))

pub returns-in_err-pipeline-clause-taken : goal.returns-in_err-pipeline-clause-taken
returns-in_err-pipeline-clause-taken g c = λ other files is.
    none-taken g.D.Draws.step
    (release_shape (g.R.OneRelease.names c.args.release.now) (g.R.OneRelease.slot c.args.release.now) files)
    (g.D.Draws.state c.args.draws.now)

pub returns-clause-runs : goal.returns-clause-runs
unfolding release_outcome
returns-clause-runs g c =
    let source = source_at g.D.Draws.step (g.D.Draws.state c.args.draws.now) in
    let names = g.R.OneRelease.names c.args.release.now in
    let told = g.S.Shelf.files c.args.shelf.now in
    runs-after c.write_release.result source
    (λ (files : Files) (both : Opened). slot_outcome source (g.R.OneRelease.slot c.args.release.now both))
    told (opened_at names.pipeline_name names.data_name) (stored c.in_ok-pipeline.pipeline c.in_ok-pipeline.store)
    (g.S.Shelf.faults c.args.shelf.now) (g.S.Shelf.faults c.open_data.new.shelf) (g.S.Shelf.faults c.open_data.new.shelf)
    _ _ _ (omega arith)
    (rw (c.pipeline_name.ensures, c.data_name.ensures, c.names-names.ensures) at c.in_ok-pipeline.ensures.answers)
    (c.write_release.ensures.runs told (g.S.Shelf.faults c.open_data.new.shelf))

pub returns-clause-taken : goal.returns-clause-taken
returns-clause-taken g c = λ other.
    release-taken g.D.Draws.step (g.D.Draws.state c.args.draws.now) _ (g.R.OneRelease.names c.args.release.now)
    (g.R.OneRelease.slot c.args.release.now) (g.S.Shelf.files c.args.shelf.now) (stored c.in_ok-pipeline.pipeline c.in_ok-pipeline.store)
    (rw (c.pipeline_name.ensures, c.data_name.ensures, c.names-names.ensures) at c.in_ok-pipeline.ensures.answers)
    (c.write_release.ensures.taken other)
