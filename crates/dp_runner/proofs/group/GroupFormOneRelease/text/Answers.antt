use Rattle.std.specs.Prelude.{string_bytes}
use Rattle.std.proofs.lemmas.Result.{err_from_is_err_and}
use Rattle.dp_law.proofs.Taking.{takes-nothing}
use Rattle.dp_session.proofs.ServedLines.{no-memory}
use Rattle.dp_runner.proofs.group.GroupFormOneRelease.text.Goals as goal

pub returns-in_err-texts-clause-text : goal.returns-in_err-texts-clause-text
returns-in_err-texts-clause-text g c =
    let p = err_from_is_err_and c.from_residual.result c.from_residual.ensures.1 in
    no-memory string_bytes c.from_residual.result p.0 _ _ p.1 p.2 (takes-nothing _ _ _)
