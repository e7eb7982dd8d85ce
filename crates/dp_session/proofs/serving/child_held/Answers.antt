use Rattle.dp_session.proofs.PlainValues.{plain-stays}
use Rattle.dp_session.proofs.ServedLines.{plain-held, plain-has}
use Rattle.dp_session.proofs.serving.child_held.Goals as goal

pub returns-in_ok-apply-in-Plain-clause-held : goal.returns-in_ok-apply-in-Plain-clause-held
returns-in_ok-apply-in-Plain-clause-held c =
    plain-stays c.args.line.now c.in-Plain.v c.in_ok-apply-in-Plain.field-0
    (plain-held c.args.store.now.records c.args.held.now c.in-Plain.v c.in-Plain.is c.requires.is_held)
    (plain-has c.args.store.now.records c.args.held.now c.in-Plain.v _ c.in-Plain.is c.requires.has) c.in_ok-apply-in-Plain.ensures.value
