use Rattle.std.proofs.Common.{◌∙◌, sym, arith, ◌^◌}
use Rattle.dp_count.specs.Digits.{decimal}
use Rattle.dp_count.proofs.Spelling.{word-short, short-longer, short-shorter, below-from, decimal-lt}
use Rattle.dp_count.proofs.digits.short_decimal.Goals as goal

pub returns-then-bytes-longest-clause-number : goal.returns-then-bytes-longest-clause-number
returns-then-bytes-longest-clause-number c = sym (short-longer c.args.bytes.now c.args.longest (omega arith))

pub returns-clause-number : goal.returns-clause-number
returns-clause-number c =
    c.decimal.ensures ∙ word-short c.args.bytes.now c.args.longest (omega arith) c.requires ∙ sym (short-shorter c.args.bytes.now c.args.longest (omega arith))

pub returns-clause-below : goal.returns-clause-below
returns-clause-below c =
    rw (c.decimal.ensures ∙ word-short c.args.bytes.now c.args.longest (omega arith) c.requires) (below-from (decimal c.args.bytes.now) (10 ^ c.args.longest) (λ n h. decimal-lt c.args.bytes.now n c.args.longest h (omega arith)))
