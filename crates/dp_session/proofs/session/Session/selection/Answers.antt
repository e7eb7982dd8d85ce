use Rattle.std.proofs.Common.{sym}
use Rattle.dp_session.proofs.ServedLines.{plain-selects}
use Rattle.dp_session.proofs.session.Session.selection.Goals as goal

pub returns-in-Plain-clause-selects : goal.returns-in-Plain-clause-selects
returns-in-Plain-clause-selects c = λ pipeline rows past s.
    let t = rw (← c.self.view_is) at s in
    plain-selects c.self.inside.queries c.self.inside.store c.self.inside.values pipeline rows past c.args.node c.in_ok-selection.field-0.now c.in-Plain.field-0
    t.at t.pipeline_is t.records_are (rw c.in_ok-selection.was at (sym c.get.ensures)) c.in-Plain.is
