use Rattle.std.proofs.lemmas.Result.{err_from_is_err_and}
use Rattle.std.specs.Prelude.{string_bytes}
use Rattle.dp_law.proofs.Taking.{takes-nothing}
use Rattle.dp_session.proofs.ServedLines.{no-memory, child-made}
use Rattle.dp_session.proofs.serving.serve.Goals as goal

pub returns-in_err-held-in-Child-clause-text : goal.returns-in_err-held-in-Child-clause-text
returns-in_err-held-in-Child-clause-text g c = λ v here.
    let p = err_from_is_err_and c.from_residual-in_err-held-in-Child.result c.from_residual-in_err-held-in-Child.ensures.1 in
    no-memory string_bytes c.from_residual-in_err-held-in-Child.result p.0 _ _ p.1 p.2 (takes-nothing _ _ _)

pub returns-in_err-push-in-Child-clause-text : goal.returns-in_err-push-in-Child-clause-text
returns-in_err-push-in-Child-clause-text g c = λ v here.
    let p = err_from_is_err_and c.from_residual-in_err-push-in-Child.result c.from_residual-in_err-push-in-Child.ensures.1 in
    no-memory string_bytes c.from_residual-in_err-push-in-Child.result p.0 _ _ p.1 p.2 (takes-nothing _ _ _)

pub returns-in_err-node_text-in-Child-clause-text : goal.returns-in_err-node_text-in-Child-clause-text
returns-in_err-node_text-in-Child-clause-text g c = λ v here.
    let p = err_from_is_err_and c.from_residual-in_err-node_text-in-Child.result c.from_residual-in_err-node_text-in-Child.ensures.1 in
    no-memory string_bytes c.from_residual-in_err-node_text-in-Child.result p.0 _ _ p.1 p.2 (takes-nothing _ _ _)

pub returns-in_ok-node_text-in-Child-clause-text : goal.returns-in_ok-node_text-in-Child-clause-text
returns-in_ok-node_text-in-Child-clause-text g c = λ v here.
    child-made g.D.Draws.step _ v c.args.task.now c.in-Child.line _ c.in-Child.is c.in_ok-node_text-in-Child.ensures
