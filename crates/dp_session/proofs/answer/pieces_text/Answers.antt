use Rattle.dp_session.proofs.AnswerTexts.{pieces-done}
use Rattle.dp_session.proofs.answer.pieces_text.Goals as goal

pub returns : goal.returns
returns c =
    pieces-done c.args.pieces.now c.in-Some.rest.now c.in-Some.first.now _ _ c.loop-piece.piece-index c.in-Some.ensures.cases.0 c.in_ok-text.ensures
    c.loop-piece-test.false c.loop-piece.invariant
