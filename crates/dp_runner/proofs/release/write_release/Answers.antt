use Rattle.std.proofs.Common.{◌∙◌, sym}
use Rattle.dp_runner.specs.Outcome.{source_at}
use Rattle.dp_runner.specs.Sessions.{stored}
use Rattle.dp_runner.proofs.ReleaseRuns.{slot-written, slot-unwritten, all-taken}
use Rattle.dp_runner.proofs.WritesLast.{lines-none}
use Rattle.dp_runner.proofs.release.write_release.Goals as goal

pub returns-in-Ok-clause-runs : goal.returns-in-Ok-clause-runs
returns-in-Ok-clause-runs g c = λ told faults.
    let source = source_at g.D.Draws.step (g.D.Draws.state c.args.draws.now) in
    let found = stored c.args.pipeline.now c.args.store.now in
    let slot = g.R.OneRelease.slot c.args.release.now found in
    slot-written c.write_lines.result source slot c.as_bytes.result.now c.in-Ok.ensures.text.0 _ told faults _ _
    c.in-Ok.ensures.text.1 (c.as_bytes.ensures.value ∙ c.in-Ok.ensures.text.2)
    (g.met.R.OneRelease.whole_lines c.args.release.now found c.in-Ok.ensures.text.0) c.write_lines.ensures.written
    c.write_lines.ensures.front c.write_lines.ensures.only

pub returns-in-Ok-clause-taken : goal.returns-in-Ok-clause-taken
returns-in-Ok-clause-taken g c = λ other.
    let found = stored c.args.pipeline.now c.args.store.now in
    all-taken g.D.Draws.step _ (g.D.Draws.state c.args.draws.now) c.in-Ok.ensures.text.0 _ c.in-Ok.ensures.text.1

pub returns-in-Err-NoMemory-clause-runs : goal.returns-in-Err-NoMemory-clause-runs
returns-in-Err-NoMemory-clause-runs g c = λ told faults files is. lines-none _ _
