use Rattle.std.proofs.Common.{◌≢◌, ◌∙◌, length, refl, arith}
use Rattle.dp_session.proofs.AnswerTexts.{several}
use Rattle.dp_session.proofs.answer.answer_text.Goals as goal

pub returns : goal.returns
returns c =
    let count = c.len.ensures in
    let other = c.if-len-eq1.false in
    let ne : length c.args.answer.now ≢ 1 = omega (arith, count, other) in
    rw (several c.args.answer.now ne) (c.in_ok-format.ensures.ok ∙ rw (c.in_ok-inside.ensures, c.as_slice.ensures) refl)
