use Rattle.dp_session.proofs.AnswerTexts.{numbers-done}
use Rattle.dp_session.proofs.answer.numbers_text.Goals as goal

pub returns : goal.returns
returns c =
    numbers-done c.args.cells.now c.in-Some.rest.now c.in-Some.first.now _ _ c.loop-cell.cell-index c.in-Some.ensures.cases.0 c.in_ok-text.ensures.ok
    c.loop-cell-test.false c.loop-cell.invariant
