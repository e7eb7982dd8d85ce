use Rattle.std.proofs.Common.{◌∙◌, arith, ap, rules, Ok}
use Rattle.std.proofs.lemmas.Result.{err_from_is_err_and}
use Rattle.dp_runner.specs.Count.{count_answer, count_written}
use Rattle.dp_runner.proofs.Steps.{reason-carries}
use Rattle.dp_runner.proofs.CountRuns.{line-no_answer, line-answer}
use Rattle.dp_runner.proofs.count.answer_line.Goals as goal

pub returns-in_err-answer-clause-answers : goal.returns-in_err-answer-clause-answers
returns-in_err-answer-clause-answers g c =
    let p = err_from_is_err_and c.from_residual.result c.from_residual.ensures.1 in
    rw (p.1, p.2) (reason-carries c.in_err-answer.field-0.0 _ (count_answer c.args.form.now) (count_written c.args.form.now) _ _ _ _
    (λ files is h. line-no_answer c.args.form.now files _ h) (omega arith) (omega arith) c.in_err-answer.ensures.answers)

pub returns-in-Ok-clause-answers : goal.returns-in-Ok-clause-answers
returns-in-Ok-clause-answers g c = λ files is.
    line-answer c.args.form.now files c.in_ok-answer.answer (c.in_ok-answer.ensures.answers files is) ∙ ap Ok (search rules)
