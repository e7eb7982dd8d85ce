use Rattle.dp_pipeline.proofs.PlanCosts.{found-cost}
use Rattle.dp_pipeline.proofs.pipeline.Pipeline.plan.Goals as goal

pub returns-clause-cost : goal.returns-clause-cost
returns-clause-cost c =
    rw (← c.self.view_is)
    (found-cost (λ spec. spec.now) c.self.inside.content c.args.name.now c.plan_named.result c.self.invariant.made
    (rw c.as_slice.ensures at c.plan_named.ensures))
