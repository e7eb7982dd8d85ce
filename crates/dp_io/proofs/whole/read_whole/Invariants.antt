use Rattle.std.proofs.Common.{◌≡◌, ◌≢◌, ℕ, ◌<◌, ◌≤◌, ◌-◌, length}
use Rattle.dp_io.specs.Shelf.{preceded}
use Rattle.dp_io.proofs.whole.read_whole.Given as goal

abbrev pub invariant-pieces : goal.invariant-pieces
invariant-pieces g l =
    (length l.bytes.items ≤ l.limit)
    × (0 < length l.buffer.items)
    × (g.S.Shelf.slots l.shelf ≡ g.S.Shelf.slots l.initial.shelf)
    × (g.S.Shelf.files l.shelf ≡ g.S.Shelf.files l.initial.shelf)
    × (g.S.Shelf.faults l.shelf ≡ g.S.Shelf.faults l.initial.shelf)
    × ((n : ℕ) → n ≢ l.slot → g.S.Shelf.left l.shelf n ≡ g.S.Shelf.left l.initial.shelf n)
    × (g.S.Shelf.left l.initial.shelf l.slot ≡ preceded l.bytes.items (g.S.Shelf.left l.shelf l.slot))

abbrev pub decreases-pieces : goal.decreases-pieces
decreases-pieces g l = l.limit - length l.bytes.items
