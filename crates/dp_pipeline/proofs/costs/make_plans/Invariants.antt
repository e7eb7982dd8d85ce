use Rattle.std.proofs.Common.{◌≡◌, drop}
use Rattle.dp_num.specs.Fractions.{fraction_of}
use Rattle.dp_pipeline.specs.Accepted.{plans_made}
use Rattle.dp_pipeline.proofs.costs.make_plans.Given as goal

-- what is left decides
abbrev pub invariant-loop-plan : goal.invariant-loop-plan
invariant-loop-plan l =
    plans_made (fraction_of l.ratio) l.at l.plans ≡ plans_made (fraction_of l.ratio) l.at (drop l.plan-index l.plans)
