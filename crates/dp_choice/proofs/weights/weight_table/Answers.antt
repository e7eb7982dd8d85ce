use Rattle.std.proofs.Common.{◌≡◌, ◌*◌, ◌/◌, ℕ, suc, ◌∙◌, sym, refl, ap, add-one, arith}
use Rattle.dp_choice.specs.Weights.{weight, first_weight, weight_table}
use Rattle.dp_choice.specs.WeightProof.{weight-most}
use Rattle.dp_choice.proofs.Tables.{table-next, weight-more}
use Rattle.dp_choice.proofs.weights.weight_table.Goals as goal

pub loop-score-init : goal.loop-score-init
unfolding weight_table weight
loop-score-init c = (rw c.in_ok-table.ensures.items at c.in_ok-push.ensures.items, refl)

pub overflow_cast-weight : goal.overflow_cast-weight
overflow_cast-weight c =
    let l = c.loop-score in
    let turn = c.loop-score-test.true in
    let most = weight-most first_weight c.args.low c.args.high (suc l._score) c.args.most c.requires.positive c.requires.order (omega arith) in
    let next : c.grown-weight.result ≡ weight first_weight c.args.low c.args.high (suc l._score) = c.grown-weight.ensures ∙ ap (λ (w : ℕ). w * c.args.high / c.args.low) l.invariant.1 ∙ sym (weight-more first_weight c.args.low c.args.high l._score) in
    record { fits = omega (arith, next, most, c.requires.fits) }

pub loop-score-preserved : goal.loop-score-preserved
loop-score-preserved c =
    let l = c.loop-score in
    let next : c.grown-weight.result ≡ weight first_weight c.args.low c.args.high (suc l._score) = c.grown-weight.ensures ∙ ap (λ (w : ℕ). w * c.args.high / c.args.low) l.invariant.1 ∙ sym (weight-more first_weight c.args.low c.args.high l._score) in
    let items : c.push-in-loop-score.new.self.items ≡ weight_table first_weight c.args.low c.args.high (suc l._score) = c.in_ok-push-2.ensures.items ∙ rw (l.invariant.0, next) (sym (table-next first_weight c.args.low c.args.high l._score)) in
    (rw add-one items, rw add-one next)
