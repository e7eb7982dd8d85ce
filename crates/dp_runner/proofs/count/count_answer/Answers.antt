use Rattle.std.proofs.Common.{◌∙◌, arith, ap, rules, Some, w64}
use Rattle.std.proofs.lemmas.Int.{to_z-of_z}
use mir.Val.{SFits}
use Rattle.std.proofs.lemmas.Result.{err_from_is_err_and}
use Rattle.dp_runner.specs.Texts.{drawn}
use Rattle.dp_runner.specs.Count.{counted, cell_answer, count_answer}
use Rattle.dp_runner.proofs.Steps.{reason-carries}
use Rattle.dp_runner.proofs.CountSteps.{count-no_data, count-no_numbers, count-taken, answer-taken, answer-not_taken}
use Rattle.dp_runner.proofs.count.count_answer.Goals as goal

pub returns-in_err-records-clause-answers : goal.returns-in_err-records-clause-answers
returns-in_err-records-clause-answers g c =
    let p = err_from_is_err_and c.from_residual.result c.from_residual.ensures.1 in
    rw (p.1, p.2) (reason-carries c.in_err-records.field-0.0 _ (λ files. counted files c.data_name.result.now) (count_answer c.args.form.now) _ _ _ _
    (λ files is h. count-no_data c.args.form.now files _ _ c.data_name.ensures h) (omega arith) (omega arith) c.in_err-records.ensures.answers)

pub returns-in_err-replay-clause-answers : goal.returns-in_err-replay-clause-answers
returns-in_err-replay-clause-answers g c =
    let p = err_from_is_err_and c.from_residual-in_err-replay.result c.from_residual-in_err-replay.ensures.1 in
    let early = c.in_ok-records.ensures.later in
    rw (p.1, p.2) (reason-carries c.in_err-replay.field-0.0 (g.S.Shelf.files c.args.shelf.now) (λ files. drawn files c.draws_name.result.now) (count_answer c.args.form.now)
    (g.S.Shelf.faults c.args.shelf.now) (g.S.Shelf.faults c.count_file.new.shelf) (g.S.Shelf.faults c.read_replay.new.shelf) (g.S.Shelf.faults c.read_replay.new.shelf)
    (λ files is h. count-no_numbers c.args.form.now files _ _ _ _ c.data_name.ensures c.draws_name.ensures (c.in_ok-records.ensures.answers files is) h)
    early (omega arith) (rw c.in_ok-records.ensures.same_files at c.in_err-replay.ensures.answers))

pub returns-in-Ok-clause-answers : goal.returns-in-Ok-clause-answers
returns-in-Ok-clause-answers g c = λ files is.
    let fits : SFits w64 c.in-Ok.answer = search rules in
    count-taken c.args.form.now files _ _ _ c.in_ok-records.records c.data_name.ensures c.draws_name.ensures (c.in_ok-records.ensures.answers files is) (c.in_ok-replay.ensures.answers files (c.in_ok-records.ensures.same_files ∙ is))
    ∙ answer-taken _ (cell_answer c.args.form.now c.in_ok-records.records) _ (ap Some (to_z-of_z w64 c.in-Ok.answer fits) ∙ c.in-Ok.ensures)

pub returns-clause-answers : goal.returns-clause-answers
returns-clause-answers g c = λ files is.
    count-taken c.args.form.now files _ _ _ c.in_ok-records.records c.data_name.ensures c.draws_name.ensures (c.in_ok-records.ensures.answers files is) (c.in_ok-replay.ensures.answers files (c.in_ok-records.ensures.same_files ∙ is))
    ∙ answer-not_taken _ (cell_answer c.args.form.now c.in_ok-records.records) c.in-Err.ensures
