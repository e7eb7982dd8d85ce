use Rattle.dp_law.proofs.Taking.{takes-nothing}
use Rattle.dp_chain.proofs.tests.line_then_noise.Goals as goal

pub returns-in_default : goal.returns-in_default
returns-in_default g c = takes-nothing _ _ _
