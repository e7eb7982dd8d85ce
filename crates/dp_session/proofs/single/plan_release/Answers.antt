use Rattle.dp_chain.specs.contracts.release.ReleaseMeasurement.TheImpl.{ghosts as release_ghosts}
use Rattle.dp_session.proofs.SingleTexts.{plan-draws}
use Rattle.dp_session.proofs.single.plan_release.Goals as goal

pub returns-clause-few_draws : goal.returns-clause-few_draws
returns-clause-few_draws c =
    plan-draws release_ghosts.mechanism c.args.pipeline.now c.in-Some.spec.now c.make_release.result c.in-Some.ensures.cost
    (rw (c.ratio.ensures, c.place.ensures, c.parts.ensures.parts) at c.make_release.ensures.made)
