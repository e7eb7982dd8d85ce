use Rattle.dp_law.proofs.Taking.{takes-nothing}
use Rattle.dp_session.proofs.single.release_whole.Goals as goal

pub returns-in_default-clause-released : goal.returns-in_default-clause-released
returns-in_default-clause-released g c = takes-nothing _ _ _
