use Rattle.std.proofs.Common.{◌≡◌, drop}
use Rattle.dp_pipeline.specs.Queries.{plan_named}
use Rattle.dp_pipeline.proofs.plan.plan_named.Given as goal

-- what is left decides
abbrev pub invariant-loop-plan : goal.invariant-loop-plan
invariant-loop-plan l = plan_named l.plans l.name ≡ plan_named (drop l.plan-index l.plans) l.name
