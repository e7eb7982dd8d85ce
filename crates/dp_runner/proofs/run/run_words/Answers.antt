use Rattle.dp_runner.proofs.RunEnds.{done-lines, early-lines, early-ending}
use Rattle.dp_runner.proofs.run.run_words.Goals as goal

pub returns-in-Ok-clause-front : goal.returns-in-Ok-clause-front
returns-in-Ok-clause-front g c = λ files is. done-lines _ _ _ _ _ 0 (c.in-Ok.ensures.runs files is)

pub returns-in-Err-clause-ending : goal.returns-in-Err-clause-ending
returns-in-Err-clause-ending g c =
    early-ending c.in-Err.stop _ _ _ _ _ _ _ _ _ _ _ _ c.in-Err.ensures.runs c.report.ensures.status c.report.ensures.message

pub returns-in-Err-clause-front : goal.returns-in-Err-clause-front
returns-in-Err-clause-front g c = λ files is. rw c.report.ensures.status (early-lines c.in-Err.stop _ _ _ _ _ _ _ c.in-Err.ensures.runs files is)
