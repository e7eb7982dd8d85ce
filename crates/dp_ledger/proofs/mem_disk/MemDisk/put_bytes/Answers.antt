use Rattle.std.proofs.Common.{◌≡◌, ◌<◌, false, sym, ◌∙◌, ap, arith, length}
use Rattle.dp_ledger.specs.Disk.{put_at}
use Rattle.dp_ledger.specs.DiskProof.{length-put_at}
use Rattle.dp_ledger.specs.MemDisk.{written, replayed, DiskState, MemValue, write_fails}
use Rattle.dp_ledger.proofs.Records.{state_pushed, length_pushed, room_left, write_room}
use Rattle.dp_ledger.proofs.mem_disk.MemDisk.put_bytes.Goals as goal

pub invariant_of-self : goal.invariant_of-self
invariant_of-self c =
    let d = c.self.inside in
    let held = c.self.invariant in
    let at = c.args.at in
    let n = length c.args.bytes.now in
    let copy = c.copy_to_blank-copy.result.items in
    let value : MemValue = record { first = d.first.items; changes = d.records.items; fails = d.fails.items; cap = d.cap; calls = d.calls; failed = d.failed } in
    let goes : write_fails value at n ≡ false = ap (λ (m : MemValue). write_fails m at n) c.self.view_is ∙ c.requires in
    let room = write_room value at n goes in
    let lt : length d.records.items < d.calls = room_left value room.1 in
    let state = state_pushed d.first.items d.calls d.records.items (written at copy) lt in
    let now = ap (replayed d.first.items) c.note.ensures.noted ∙ state in
    let put : c.put.new.content.items ≡ put_at at copy (replayed d.first.items d.records.items).content = c.put.ensures.put ∙ (λ i. put_at at (sym c.copy_to_blank-copy.ensures.copy i) (held.0.content_is i)) in (
      record {
        content_is = put ∙ ap (λ (s : DiskState). s.content) (sym now);
        kept_is = held.0.kept_is ∙ ap (λ (s : DiskState). s.kept) (sym now);
        small = omega (arith, ap length c.put.ensures.put, length-put_at at c.args.bytes.now d.content.items, held.0.small, room.0);
        room = omega (arith, held.0.room, c.put.ensures.capacity);
        kept_room = held.0.kept_room;
      },
      record {
        records = omega (arith, held.1.records, c.note.ensures.capacity);
        enough = omega (arith, held.1.enough, length_pushed d.calls d.records.items (written at copy) lt, ap length c.note.ensures.noted, c.copy_to_blank-copy.ensures.count);
        blank = c.copy_to_blank-copy.ensures.rest;
      },
    )
