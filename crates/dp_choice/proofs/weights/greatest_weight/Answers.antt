use Rattle.std.proofs.Common.{◌≡◌, ◌<◌, ◌*◌, ◌/◌, ℕ, suc, ◌∙◌, sym, refl, ap, add-one, arith}
use Rattle.dp_choice.specs.Weights.{weight, first_weight, all_draws}
use Rattle.dp_choice.specs.WeightProof.{weight-most}
use Rattle.dp_choice.proofs.Tables.{weight-more, past-limit, within-limit}
use Rattle.dp_choice.proofs.weights.greatest_weight.Goals as goal

pub loop-score-init : goal.loop-score-init
unfolding weight
loop-score-init c = (refl, omega arith)

pub returns-in_default : goal.returns-in_default
returns-in_default c =
    let l = c.loop-score in
    let turn = c.loop-score-test.true in
    let most = weight-most first_weight c.args.low c.args.high (suc l._score) c.args.most c.requires.positive c.requires.order (omega arith) in
    let out : all_draws < l.weight * c.args.high / c.args.low = past-limit _ _ _ refl c.in_default.ensures in
    let next : weight first_weight c.args.low c.args.high (suc l._score) ≡ l.weight * c.args.high / c.args.low = weight-more first_weight c.args.low c.args.high l._score ∙ ap (λ (w : ℕ). w * c.args.high / c.args.low) (sym l.invariant.0) in
    omega arith

pub loop-score-preserved : goal.loop-score-preserved
loop-score-preserved c =
    let l = c.loop-score in
    let given = within-limit _ _ _ _ refl c.in-Some.ensures in
    let next : c.in-Some.next ≡ weight first_weight c.args.low c.args.high (suc l._score) = given.0 ∙ ap (λ (w : ℕ). w * c.args.high / c.args.low) l.invariant.0 ∙ sym (weight-more first_weight c.args.low c.args.high l._score) in
    (rw add-one next, omega (arith, given.0, given.1))
