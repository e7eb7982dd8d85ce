use Rattle.std.proofs.Common.{◌≡◌, ◌≤◌, ◌+◌, ◌*◌, get_or, length, pos, arith, w64, ap, ◌∙◌, rules, subst, ℕ, refl, sym, suc, leb, add-one}
use Rattle.std.proofs.lemmas.Int.{to_z-of_z}
use Rattle.std.specs.List.{sum}
use mir.Val.{SFits}
use Rattle.dp_choice.specs.Weights.{weight, score, weights, greatest, first_weight, all_draws}
use Rattle.dp_choice.specs.Shares.{share, chosen, last_below}
use Rattle.dp_choice.specs.Parts.{numbers_of}
use Rattle.dp_choice.specs.WeightProof.{weights-most, length-weights}
use Rattle.dp_choice.proofs.Tables.{sum-more, sum-part, last-next}
use Rattle.dp_choice.proofs.choice.Choice.place.Goals as goal

pub loop-cell-init : goal.loop-cell-init
unfolding last_below
loop-cell-init c = (refl, refl, refl)

pub overflow_add-before : goal.overflow_add-before
overflow_add-before c =
    let s = c.args.self.now in
    let n = numbers_of s in
    let l = c.loop-cell in
    let fits : SFits w64 (get_or c.args.cells.now l.cell-index (pos 0)) = search rules in
    let one = c.weight-before.ensures.value ∙ ap (λ z. weight first_weight s.low s.high (score n z)) (to_z-of_z w64 _ fits) in
    let more = sum-more first_weight n c.args.cells.now l.cell-index c.loop-cell-test.true in
    let part = sum-part first_weight n c.args.cells.now (l.cell-index + 1) in
    let most = weights-most first_weight n c.args.cells.now s.powers.positive (omega (arith, s.powers.below_one)) s.ordered in
    let few = subst (λ (m : ℕ). sum (weights first_weight n c.args.cells.now) ≤ m * greatest first_weight n) c.requires.len most in
    record { fits = omega (arith, l.invariant.0, one, more, part, few, s.sum_fits) }

pub loop-cell-preserved : goal.loop-cell-preserved
loop-cell-preserved c =
    let s = c.args.self.now in
    let n = numbers_of s in
    let l = c.loop-cell in
    let fits : SFits w64 (get_or c.args.cells.now l.cell-index (pos 0)) = search rules in
    let one = c.weight-before.ensures.value ∙ ap (λ z. weight first_weight s.low s.high (score n z)) (to_z-of_z w64 _ fits) in
    let more = sum-more first_weight n c.args.cells.now l.cell-index c.loop-cell-test.true in
    let ws = weights first_weight n c.args.cells.now in
    let test = λ (j : ℕ). leb (share all_draws ws j) c.args.draw in
    let given : c.reaches.result ≡ leb (share all_draws ws l.cell-index) c.args.draw = c.reaches.ensures ∙ rw (l.invariant.0, c.requires.total) refl in
    let next : c.later-chosen.result ≡ last_below (suc l.cell-index) test = c.later-chosen.ensures ∙ rw (given, l.invariant.1, l.invariant.2) (sym (last-next l.cell-index test)) in
    (omega (arith, l.invariant.0, one, more), omega (arith, l.invariant.1), rw add-one next)

pub returns : goal.returns
unfolding chosen
returns c =
    let s = c.args.self.now in
    let n = numbers_of s in
    let ws = weights first_weight n c.args.cells.now in
    let long = length-weights first_weight n c.args.cells.now in
    let all : c.loop-cell.cell-index ≡ length ws = omega (arith, c.loop-cell-test.false, c.loop-cell.auto.cell-index-end, long) in
    c.loop-cell.invariant.2 ∙ ap (λ (m : ℕ). last_below m (λ j. leb (share all_draws ws j) c.args.draw)) all
