use Rattle.std.proofs.Common.{◌≡◌, ◌++◌, ◌∷◌, [], get_or, length, pos, w64, rules, arith, ap, ◌∙◌, length-append}
use Rattle.std.proofs.lemmas.Int.{to_z-of_z}
use Rattle.std.proofs.lemmas.Result.{err_from_is_err_and}
use mir.Val.{SFits}
use Rattle.dp_geometric.proofs.VectorSteps.{place-more, place-fails, places-end}
use Rattle.dp_geometric.proofs.geometric.step_each.Goals as goal

pub returns-in_err-answer-clause-answers : goal.returns-in_err-answer-clause-answers
returns-in_err-answer-clause-answers g c =
    let p = err_from_is_err_and c.from_residual.result c.from_residual.ensures.1 in
    let n = c.loop-number in
    let fits : SFits w64 (get_or c.args.numbers.now n.number-index (pos 0)) = search rules in
    rw p.1 (place-fails _ _ _ _ _ _ _ _ _ _ n.invariant.0 c.loop-number-test.true fits c.in_err-answer.ensures.answer c.in_err-answer.ensures.last).0

pub returns-in_err-answer-clause-last : goal.returns-in_err-answer-clause-last
returns-in_err-answer-clause-last g c =
    let n = c.loop-number in
    let fits : SFits w64 (get_or c.args.numbers.now n.number-index (pos 0)) = search rules in
    (place-fails _ _ _ _ _ _ _ _ _ _ n.invariant.0 c.loop-number-test.true fits c.in_err-answer.ensures.answer c.in_err-answer.ensures.last).1

pub loop-number-preserved : goal.loop-number-preserved
loop-number-preserved g c =
    let n = c.loop-number in
    let x = c.in_ok-answer.answer in
    let fits : SFits w64 (get_or c.args.numbers.now n.number-index (pos 0)) = search rules in
    let fits_answer : SFits w64 x = search rules in
    let same = to_z-of_z w64 x fits_answer in
    let raw = rw c.unwrap.ensures at c.push.ensures.items in
    let items : c.push.new.self.items ≡ n.given.items ++ x ∷ [] = raw ∙ ap (λ y. n.given.items ++ y ∷ []) same in
    let more = place-more _ _ _ _ _ _ _ _ _ _ _ x n.invariant.0 c.loop-number-test.true fits c.in_ok-answer.ensures.answer c.in_ok-answer.ensures.last c.in_ok-answer.ensures.cause.kept in
    let longer = ap length items ∙ length-append n.given.items (x ∷ []) in
    (rw items more, omega (arith, n.invariant.1), omega (arith, n.invariant.2, c.push.ensures.capacity))

pub returns-clause-answers : goal.returns-clause-answers
returns-clause-answers g c = (places-end _ _ _ _ _ _ _ _ _ c.loop-number.invariant.0 c.loop-number-test.false).0

pub returns-clause-last : goal.returns-clause-last
returns-clause-last g c = (places-end _ _ _ _ _ _ _ _ _ c.loop-number.invariant.0 c.loop-number-test.false).1
