use Rattle.dp_law.proofs.Taking.{takes-nothing}
use Rattle.dp_chain.proofs.measured.MeasuredMeasurement.release.Goals as goal

pub returns-in-Err-clause-released : goal.returns-in-Err-clause-released
returns-in-Err-clause-released g c = takes-nothing _ _ _
