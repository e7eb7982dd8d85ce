use Rattle.std.proofs.Common.{◌∙◌, sym, length, arith, ◌<◌, ◌≤◌, get_or}
use Rattle.std.specs.Char.{is_ascii_digit}
use Rattle.std.proofs.lemmas.Bool.Decides.{nat_tests}
use Rattle.dp_count.proofs.Spelling.{spelled-decimal, spelled-more, spelled-end, decimal-empty, read-lt, more}
use Rattle.dp_count.proofs.digits.decimal.Goals as goal

pub returns-then-is_empty : goal.returns-then-is_empty
returns-then-is_empty c =
    let none : length c.args.bytes.now ≤ 0 = grind (arith, nat_tests) in
    sym (decimal-empty c.args.bytes.now none)

pub returns-in_err-number : goal.returns-in_err-number
returns-in_err-number c =
    let some : 0 < length c.args.bytes.now = grind (arith, nat_tests) in
    c.from_residual.ensures ∙ sym (sym (spelled-decimal c.args.bytes.now some) ∙ sym c.loop-byte.invariant.0 ∙ spelled-more c.args.bytes.now c.loop-byte.number c.loop-byte.byte-index _ c.loop-byte-test.true (sym c.in_err-number.was ∙ c.with_digit.ensures))

pub loop-byte-preserved : goal.loop-byte-preserved
loop-byte-preserved c = (
  sym (spelled-more c.args.bytes.now c.loop-byte.number c.loop-byte.byte-index _ c.loop-byte-test.true (sym c.in_ok-number.was ∙ c.with_digit.ensures)) ∙ c.loop-byte.invariant.0,
  read-lt (is_ascii_digit (get_or c.args.bytes.now c.loop-byte.byte-index 0)) (more c.loop-byte.number (get_or c.args.bytes.now c.loop-byte.byte-index 0)) _ (sym c.with_digit.ensures ∙ c.in_ok-number.was),
)

pub returns : goal.returns
returns c =
    let some : 0 < length c.args.bytes.now = grind (arith, nat_tests) in
    sym (spelled-end c.args.bytes.now c.loop-byte.number c.loop-byte.byte-index c.loop-byte-test.false c.loop-byte.invariant.1) ∙ c.loop-byte.invariant.0 ∙ spelled-decimal c.args.bytes.now some
