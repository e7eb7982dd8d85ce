use Rattle.std.proofs.Common.{◌≡◌, ◌++◌, drop}
use Rattle.dp_num.specs.Fractions.{fraction_of}
use Rattle.dp_pipeline.specs.Printing.{plans_lines}
use Rattle.dp_pipeline.proofs.printing.push_plans.Given as goal

-- the lines so far, and then what is left
abbrev pub invariant-loop-plan : goal.invariant-loop-plan
invariant-loop-plan l =
    l.initial.lines ++ plans_lines (fraction_of l.ratio) l.at l.plans
    ≡ l.lines ++ plans_lines (fraction_of l.ratio) l.at (drop l.plan-index l.plans)
