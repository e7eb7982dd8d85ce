use Rattle.std.specs.Prelude.{string_bytes}
use Rattle.std.proofs.lemmas.Result.{err_from_is_err_and}
use Rattle.dp_session.proofs.ServedLines.{no-memory, released-front}
use Rattle.dp_session.proofs.single.released_lines.Goals as goal

pub returns-in_err-answer_lines-in-Ok-clause-text : goal.returns-in_err-answer_lines-in-Ok-clause-text
returns-in_err-answer_lines-in-Ok-clause-text c = λ source shape function released.
    let p = err_from_is_err_and c.from_residual.result c.from_residual.ensures.1 in
    no-memory string_bytes c.from_residual.result p.0 _ _ p.1 p.2
    (released-front source.step shape function source.before source.after c.in-Ok.answer (rw c.in-Ok.is at released))
