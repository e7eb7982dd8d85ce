use Rattle.std.proofs.Common.{◌∙◌, arith}
use Rattle.std.specs.Prelude.{ℕ, List}
use Rattle.dp_count.specs.Digits.{decimal}
use Rattle.dp_count.proofs.Spelling.{by_sign-none, by_sign-some}
use Rattle.dp_rowwise.specs.Cast.{small, cast}
use Rattle.dp_rowwise.proofs.cast.cast_text.Goals as goal

pub returns-in_err-number : goal.returns-in_err-number
unfolding cast
returns-in_err-number c =
    c.from_residual.ensures ∙ by_sign-none (λ (digits : List ℕ). small (decimal digits)) c.args.text.now c.without_sign-negative.result.1.now c.without_sign-negative.result.0 c.without_sign-negative.ensures c.in_err-number.ensures.number

pub returns : goal.returns
unfolding cast
returns c =
    let below = c.in_ok-number.ensures.limit in
    by_sign-some (λ (digits : List ℕ). small (decimal digits)) c.args.text.now c.without_sign-negative.result.1.now c.without_sign-negative.result.0 c.in_ok-number.number c.with_sign.result c.without_sign-negative.ensures c.in_ok-number.ensures.number (omega arith) c.with_sign.ensures
