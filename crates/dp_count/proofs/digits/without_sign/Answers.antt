use Rattle.std.proofs.Common.{sym}
use Rattle.dp_count.proofs.Spelling.{sign-empty, sign-minus, sign-plain}
use Rattle.dp_count.proofs.digits.without_sign.Goals as goal

pub returns-in_default : goal.returns-in_default
returns-in_default c = sym (sign-empty c.args.bytes.now c.in_default.ensures.cases)

pub returns-then-first-eq45 : goal.returns-then-first-eq45
returns-then-first-eq45 c =
    sym (sign-minus c.args.bytes.now c.in-Some.rest.now c.in-Some.first.now c.in-Some.ensures.cases.0 c.if-first-eq45.true)

pub returns-else-first-eq45 : goal.returns-else-first-eq45
returns-else-first-eq45 c =
    sym (sign-plain c.args.bytes.now c.in-Some.rest.now c.in-Some.first.now c.in-Some.ensures.cases.0 c.if-first-eq45.false)
