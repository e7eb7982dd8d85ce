use Rattle.std.proofs.Common.{◌≡◌, ◌≢◌, ℕ, ◌+◌, ◌-◌, true, false, ◌⊎◌, length, if◌then◌else◌}
use Rattle.dp_io.specs.Shelf.{IsEmptied}
use Rattle.dp_io.specs.Lines.{remaining, needs_read}
use Rattle.dp_io.proofs.lines.Lines.next.Given as goal

abbrev pub invariant-pieces : goal.invariant-pieces
invariant-pieces g l = record {
  slot : l.self.slot ≡ l.initial.self.slot;
  slots : g.S.Shelf.slots l.shelf ≡ g.S.Shelf.slots l.initial.shelf;
  files : g.S.Shelf.files l.shelf ≡ g.S.Shelf.files l.initial.shelf;
  faults : g.S.Shelf.faults l.shelf ≡ g.S.Shelf.faults l.initial.shelf;
  others : (n : ℕ) → n ≢ l.initial.self.slot → g.S.Shelf.left l.shelf n ≡ g.S.Shelf.left l.initial.shelf n;
  text : remaining l.self (g.S.Shelf.left l.shelf l.initial.self.slot) ≡ remaining l.initial.self (g.S.Shelf.left l.initial.shelf l.initial.self.slot);
  end : l.self.at_end ≡ true → (l.initial.self.at_end ≡ true) ⊎ IsEmptied (g.S.Shelf.left l.shelf l.initial.self.slot);
  end_stays : l.initial.self.at_end ≡ true → l.self.at_end ≡ true;
  no_read : needs_read l.initial.self ≡ false → (l.shelf ≡ l.initial.shelf) × (needs_read l.self ≡ false);
}

abbrev pub decreases-pieces : goal.decreases-pieces
decreases-pieces g l = (65537 - length l.self.read_ahead) + (if l.self.at_end then 0 else 1)
