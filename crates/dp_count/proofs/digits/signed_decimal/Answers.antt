use Rattle.std.proofs.Common.{◌∙◌, arith, lit<}
use Rattle.std.proofs.Math.Nat.{pow-le-pow_right}
use Rattle.dp_count.specs.Digits.{short_decimal, signed_decimal}
use Rattle.dp_count.proofs.Spelling.{by_sign-none, by_sign-some}
use Rattle.dp_count.proofs.digits.signed_decimal.Goals as goal

pub returns-in_err-number-clause-number : goal.returns-in_err-number-clause-number
unfolding signed_decimal
returns-in_err-number-clause-number c =
    c.from_residual.ensures ∙ by_sign-none (short_decimal c.args.longest) c.args.bytes.now c.without_sign-negative.result.1.now c.without_sign-negative.result.0 c.without_sign-negative.ensures c.in_err-number.ensures.number

pub with_sign-requires : goal.with_sign-requires
with_sign-requires c =
    let most = pow-le-pow_right {n = 10} (lit< tt) c.requires in
    let below = c.in_ok-number.ensures.below in
    omega arith

pub returns-clause-number : goal.returns-clause-number
unfolding signed_decimal
returns-clause-number c =
    let most = pow-le-pow_right {n = 10} (lit< tt) c.requires in
    let below = c.in_ok-number.ensures.below in
    by_sign-some (short_decimal c.args.longest) c.args.bytes.now c.without_sign-negative.result.1.now c.without_sign-negative.result.0 c.in_ok-number.number c.with_sign.result c.without_sign-negative.ensures c.in_ok-number.ensures.number (omega arith) c.with_sign.ensures
