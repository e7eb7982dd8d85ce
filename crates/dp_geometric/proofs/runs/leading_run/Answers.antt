use Rattle.std.proofs.lemmas.Result.{err_from_is_err_and}
use Rattle.dp_geometric.proofs.LeadingRun.{forward-more, forward-fails, forward-ends}
use Rattle.dp_geometric.proofs.runs.leading_run.Goals as goal

pub returns-in_err-still-clause-run : goal.returns-in_err-still-clause-run
returns-in_err-still-clause-run g c =
    let p = err_from_is_err_and c.from_residual.result c.from_residual.ensures.1 in
    rw p.1 (forward-fails _ _ _ _ _ _ _ _ _ _ _ _ c.loop-turn.invariant c.loop-turn-test.true c.in_err-still.ensures.step).0

pub returns-in_err-still-clause-last : goal.returns-in_err-still-clause-last
returns-in_err-still-clause-last g c =
    (forward-fails _ _ _ _ _ _ _ _ _ _ _ _ c.loop-turn.invariant c.loop-turn-test.true c.in_err-still.ensures.step).1

pub loop-turn-preserved : goal.loop-turn-preserved
loop-turn-preserved g c =
    rw c.from.ensures (forward-more _ _ _ _ _ _ _ _ _ _ _ _ _ _ c.loop-turn.invariant c.loop-turn-test.true c.in_ok-still.ensures.step c.in_ok-still.ensures.cause.kept)

pub returns-clause-run : goal.returns-clause-run
returns-clause-run g c = (forward-ends _ _ _ _ _ _ _ _ _ _ _ c.loop-turn.invariant c.loop-turn-test.false).0

pub returns-clause-last : goal.returns-clause-last
returns-clause-last g c = (forward-ends _ _ _ _ _ _ _ _ _ _ _ c.loop-turn.invariant c.loop-turn-test.false).1
