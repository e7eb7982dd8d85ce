use Rattle.std.proofs.Common.{◌≡◌, true, false, sym, ◌∙◌}
use Rattle.std.proofs.Math.Bool.{and-false, and-true}
use Rattle.dp_choice.specs.Weights.{is_score_range}
use Rattle.dp_choice.proofs.weights.fitting_table.Goals as goal

pub weights_fit-requires-clause-few : goal.weights_fit-requires-clause-few
weights_fit-requires-clause-few c = c.in-Some.ensures.1

pub returns-then-not-weights_fit : goal.returns-then-not-weights_fit
returns-then-not-weights_fit c least most =
    let is : c.weights_fit.result ≡ false = cc in
    let fits = rw (c.in-Some.ensures.0, c.width-most.ensures.value, c.p.ensures, c.q.ensures) at (sym c.weights_fit.ensures ∙ is) in
    rw fits (and-false (is_score_range c.args.floor.now c.args.top.now))

pub returns : goal.returns
returns c least most =
    let is : c.weights_fit.result ≡ true = cc in
    let range : c.is_score_range.result ≡ true = cc in
    let fits = rw (c.in-Some.ensures.0, c.width-most.ensures.value, c.p.ensures, c.q.ensures) at (sym c.weights_fit.ensures ∙ is) in
    (rw c.width-most.ensures.value at c.in_ok-weight_table.ensures, rw fits (and-true (is_score_range c.args.floor.now c.args.top.now) ∙ sym c.is_score_range.ensures ∙ range))
