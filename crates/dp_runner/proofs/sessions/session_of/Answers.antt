use Rattle.std.proofs.Common.{◌∙◌, ap, Ok}
use Rattle.dp_runner.proofs.SessionRuns.{opened-both}
use Rattle.dp_runner.proofs.sessions.session_of.Goals as goal

pub returns-clause-answers : goal.returns-clause-answers
returns-clause-answers g c = λ files is.
    rw (← c.pipeline_name.ensures, ← c.data_name.ensures)
    (c.in_ok-pipeline.ensures.answers files is
    ∙ ap Ok (opened-both c.in_ok-over.field-0 c.in_ok-pipeline.pipeline c.in_ok-pipeline.store _ c.in_ok-over.ensures))
