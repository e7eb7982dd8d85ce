use Rattle.std.proofs.lemmas.Result.{err_from_is_err_and}
use Rattle.std.specs.Prelude.{string_bytes}
use Rattle.dp_session.proofs.ServedLines.{no-memory, released-front}
use Rattle.dp_session.proofs.serving.release_text.Goals as goal

pub returns-in_err-answered_text-in-Ok-clause-text : goal.returns-in_err-answered_text-in-Ok-clause-text
returns-in_err-answered_text-in-Ok-clause-text g c =
    let p = err_from_is_err_and c.from_residual.result c.from_residual.ensures.1 in
    no-memory string_bytes c.from_residual.result p.0 _ _ p.1 p.2 (released-front g.D.Draws.step _ _ _ _ c.in-Ok.answer c.in-Ok.ensures.released)
