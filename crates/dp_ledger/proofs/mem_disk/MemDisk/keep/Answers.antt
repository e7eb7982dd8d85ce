use Rattle.std.proofs.Common.{◌≡◌, ◌<◌, false, sym, ◌∙◌, ap, arith, length}
use Rattle.dp_ledger.specs.MemDisk.{synced, replayed, DiskState, MemValue, fails_next}
use Rattle.dp_ledger.proofs.Records.{state_pushed, noted_longer, room_left}
use Rattle.dp_ledger.proofs.mem_disk.MemDisk.keep.Goals as goal

pub invariant_of-self : goal.invariant_of-self
invariant_of-self c =
    let d = c.self.inside in
    let held = c.self.invariant in
    let value : MemValue = record { first = d.first.items; changes = d.records.items; fails = d.fails.items; cap = d.cap; calls = d.calls; failed = d.failed } in
    let goes : fails_next value ≡ false = ap fails_next c.self.view_is ∙ c.requires in
    let lt : length d.records.items < d.calls = room_left value goes in
    let state = state_pushed d.first.items d.calls d.records.items synced lt in
    let now = ap (replayed d.first.items) c.note.ensures.noted ∙ state in (
      record {
        content_is = held.0.content_is ∙ ap (λ (s : DiskState). s.content) (sym now);
        kept_is = c.replace.ensures.items ∙ c.deref.ensures.value ∙ held.0.content_is ∙ ap (λ (s : DiskState). s.kept) (sym now);
        small = held.0.small;
        room = held.0.room;
        kept_room = omega (arith, held.0.kept_room, c.replace.ensures.capacity);
      },
      record {
        records = omega (arith, held.1.records, c.note.ensures.capacity);
        enough = omega (arith, held.1.enough, noted_longer d.calls d.records.items synced, ap length c.note.ensures.noted);
        blank = held.1.blank;
      },
    )
