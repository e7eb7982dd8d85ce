use Rattle.std.proofs.Common.{refl, ap, arith, length}
use Rattle.dp_ledger.specs.MemDisk.{torn, replayed}
use Rattle.dp_ledger.proofs.Records.{holds_same, state_noted, noted_longer}
use Rattle.dp_ledger.proofs.mem_disk.MemDisk.fail_write.Goals as goal

pub invariant_of-self : goal.invariant_of-self
invariant_of-self c =
    let d = c.self.inside in
    let held = c.self.invariant in
    let same = state_noted d.first.items d.calls d.records.items (torn c.args.at c.args.size) (λ s. (refl, refl)) in (
      rw c.note.ensures.noted (holds_same (replayed d.first.items d.records.items) _ d.cap d.content d.kept same.0 same.1 held.0),
      record {
        records = omega (arith, held.1.records, c.note.ensures.capacity);
        enough = omega (arith, held.1.enough, noted_longer d.calls d.records.items (torn c.args.at c.args.size), ap length c.note.ensures.noted);
        blank = held.1.blank;
      },
    )
