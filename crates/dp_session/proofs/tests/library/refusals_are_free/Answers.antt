use Rattle.std.proofs.Common.{Result, ap}
use Rattle.dp_tree.specs.History.{spent}
use Rattle.dp_session.specs.declared.refusal.Refusal.{Refusal}
use Rattle.dp_session.specs.Verdicts.{Grant, events, granted, with_verdict}
use Rattle.dp_session.proofs.tests.library.refusals_are_free.Goals as goal

pub returns : goal.returns
unfolding granted
returns c = λ pipeline past line refused is_refused.
    ap (λ (given : Result Grant Refusal). spent (events (with_verdict given (granted pipeline past))) 0) is_refused
