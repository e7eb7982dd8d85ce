use Rattle.std.proofs.lemmas.Result.{err_from_is_err_and}
use Rattle.dp_law.proofs.Taking.{takes-nothing}
use Rattle.dp_response.proofs.response.ResponseMeasurement.release.Goals as goal

pub returns-in_err-answer-clause-released : goal.returns-in_err-answer-clause-released
returns-in_err-answer-clause-released g c =
    let p = err_from_is_err_and c.from_residual.result c.from_residual.ensures.1 in
    rw (p.1, p.2) (takes-nothing _ _ _)
