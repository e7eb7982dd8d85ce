use Rattle.std.proofs.Common.{◌≤◌, ◌+◌, ◌*◌, get_or, pos, arith, w64, ap, ◌∙◌, rules, subst, ℕ}
use Rattle.std.proofs.lemmas.Int.{to_z-of_z}
use Rattle.std.proofs.lemmas.List.{take_all}
use Rattle.std.specs.List.{sum}
use mir.Val.{SFits}
use Rattle.dp_choice.specs.Weights.{weight, score, weights, greatest, first_weight}
use Rattle.dp_choice.specs.Parts.{numbers_of}
use Rattle.dp_choice.specs.WeightProof.{weights-most, weights-positive, length-weights}
use Rattle.dp_choice.proofs.Tables.{sum-more, sum-part}
use Rattle.dp_choice.proofs.choice.Choice.total.Goals as goal

pub overflow_add-total : goal.overflow_add-total
overflow_add-total c =
    let s = c.args.self.now in
    let n = numbers_of s in
    let l = c.loop-cell in
    let fits : SFits w64 (get_or c.args.cells.now l.cell-index (pos 0)) = search rules in
    let one = c.weight-total.ensures.value ∙ ap (λ z. weight first_weight s.low s.high (score n z)) (to_z-of_z w64 _ fits) in
    let more = sum-more first_weight n c.args.cells.now l.cell-index c.loop-cell-test.true in
    let part = sum-part first_weight n c.args.cells.now (l.cell-index + 1) in
    let most = weights-most first_weight n c.args.cells.now s.powers.positive (omega (arith, s.powers.below_one)) s.ordered in
    let few = subst (λ (m : ℕ). sum (weights first_weight n c.args.cells.now) ≤ m * greatest first_weight n) c.requires most in
    record { fits = omega (arith, l.invariant, one, more, part, few, s.sum_fits) }

pub loop-cell-preserved : goal.loop-cell-preserved
loop-cell-preserved c =
    let s = c.args.self.now in
    let n = numbers_of s in
    let l = c.loop-cell in
    let fits : SFits w64 (get_or c.args.cells.now l.cell-index (pos 0)) = search rules in
    let one = c.weight-total.ensures.value ∙ ap (λ z. weight first_weight s.low s.high (score n z)) (to_z-of_z w64 _ fits) in
    let more = sum-more first_weight n c.args.cells.now l.cell-index c.loop-cell-test.true in
    omega (arith, l.invariant, one, more)

pub returns-clause-value : goal.returns-clause-value
returns-clause-value c =
    let s = c.args.self.now in
    let n = numbers_of s in
    let long = length-weights first_weight n c.args.cells.now in
    c.loop-cell.invariant ∙ ap sum (take_all c.loop-cell.cell-index (weights first_weight n c.args.cells.now) (omega (arith, c.loop-cell-test.false, long)))

pub returns-clause-few : goal.returns-clause-few
returns-clause-few c =
    let s = c.args.self.now in
    let n = numbers_of s in
    let part = sum-part first_weight n c.args.cells.now c.loop-cell.cell-index in
    let most = weights-most first_weight n c.args.cells.now s.powers.positive (omega (arith, s.powers.below_one)) s.ordered in
    let few = subst (λ (m : ℕ). sum (weights first_weight n c.args.cells.now) ≤ m * greatest first_weight n) c.requires most in
    omega (arith, c.loop-cell.invariant, part, few, s.sum_fits)

pub returns-clause-positive : goal.returns-clause-positive
returns-clause-positive c =
    let s = c.args.self.now in
    let n = numbers_of s in
    let long = length-weights first_weight n c.args.cells.now in
    let whole = c.loop-cell.invariant ∙ ap sum (take_all c.loop-cell.cell-index (weights first_weight n c.args.cells.now) (omega (arith, c.loop-cell-test.false, long))) in
    omega (arith, whole, weights-positive first_weight n c.args.cells.now (omega arith) s.powers.positive (omega (arith, s.powers.below_one)) (omega (arith, c.requires, s.input_fits.0.0)))
