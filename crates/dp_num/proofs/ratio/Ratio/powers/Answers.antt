use Rattle.std.proofs.Common.{◌≡◌, None, sym, arith, rules}
use Rattle.dp_num.specs.Limits.{powers}
use Rattle.dp_num.proofs.Powers.{pow-one, powers-zero, powers-made, powers-past, are-powers}
use Rattle.dp_num.proofs.ratio.Ratio.powers.Goals as goal

pub returns-then-u-eq0-clause-given : goal.returns-then-u-eq0-clause-given
returns-then-u-eq0-clause-given c = rw c.if-u-eq0.true (sym (powers-zero _ _))

pub loop-exponent-init : goal.loop-exponent-init
loop-exponent-init c = record { low = sym (pow-one _); high = sym (pow-one _); few = omega arith }

pub returns-in_err-next_low-clause-given : goal.returns-in_err-next_low-clause-given
returns-in_err-next_low-clause-given c =
    let ratio = c.args.self.now in
    let at = c.loop-exponent in
    let e : powers ratio.p ratio.q c.args.u ≡ None
    = powers-past ratio.p ratio.q at._exponent c.args.u at.low at.high (omega arith) (omega arith) c.loop-exponent-test.true at.invariant.low at.invariant.high (sym c.in_err-next_low.ensures) in
    rw e (search rules)

pub returns-clause-given : goal.returns-clause-given
returns-clause-given c =
    let at = c.loop-exponent in
    let e : at._exponent ≡ c.args.u = omega arith in
    sym (powers-made _ _ c.args.u at.low at.high (omega arith) (rw e at at.invariant.low) (rw e at at.invariant.high) at.invariant.few)

pub returns-clause-facts : goal.returns-clause-facts
returns-clause-facts c =
    let ratio = c.args.self.now in
    let at = c.loop-exponent in
    let e : at._exponent ≡ c.args.u = omega arith in
    are-powers ratio.p ratio.q c.args.u (at.low, at.high) ratio.positive ratio.below_one
    (powers-made _ _ c.args.u at.low at.high (omega arith) (rw e at at.invariant.low) (rw e at at.invariant.high) at.invariant.few)
