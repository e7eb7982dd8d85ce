use Rattle.dp_group.specs.StepsProof.{order_law, steps_law}
use Rattle.dp_group.proofs.laws.steps_law.Goals as goal

pub returns-clause-order : goal.returns-clause-order
returns-clause-order c = order_law

pub returns-clause-steps : goal.returns-clause-steps
returns-clause-steps c = steps_law
