use Rattle.std.proofs.Common.{◌∙◌, arith}
use Rattle.dp_ledger.proofs.Records.{holds_new}
use Rattle.dp_ledger.proofs.mem_disk.MemDisk.new.Goals as goal

pub invariant_of-result : goal.invariant_of-result
invariant_of-result c = (
  holds_new c.args.bytes.items c.in_ok-with_capacity.field-0.items c.args.cap c.replace.new.list c.replace-2.new.list
      c.in_ok-with_capacity.ensures.items
      (c.replace.ensures.items ∙ c.deref.ensures.value)
      (c.replace-2.ensures.items ∙ c.deref-2.ensures.value)
      c.requires
      (omega (arith, c.replace.ensures.capacity, c.in_ok-content.ensures.capacity))
      (omega (arith, c.replace-2.ensures.capacity, c.in_ok-kept.ensures.capacity)),
  record {
    records = omega (arith, c.in_ok-with_capacity.ensures.capacity);
    enough = omega (arith, c.in_ok-new_blanks.ensures.count);
    blank = c.in_ok-new_blanks.ensures.blank;
  },
)
