-- The image between the three steps of a charge.
use Rattle.std.specs.Prelude.{◌≡◌, ℕ, List, true, false, Option, Some, IsSome}
use Rattle.dp_ledger.specs.declared.ledger.Ledger.{Ledger}
use Rattle.dp_ledger.specs.Disk.{LeavesOnly}
use Rattle.dp_ledger.specs.Image.{ledger_total, current_slot, counted, is_of, entry_at, is_open, other}

-- the current slot counts with the ledger's total, and the other slot's gate is closed
pub record IsShut (ledger : Ledger) (content : List ℕ) : Type 0 where
  pub of_ratio : is_of ledger.ratio content ≡ true
  pub current : counted (entry_at ledger.current content) ≡ Some ledger.total
  pub shut : is_open (entry_at (other ledger.current) content) ≡ false

-- besides, the other slot has this total
pub record IsFilled (ledger : Ledger) (total : ℕ) (content : List ℕ) : Type 0 where
  pub closed : IsShut ledger content
  pub filled : (entry_at (other ledger.current) content).total ≡ total

-- the slot that was the other one is current, with this total, and the gate of the one that was current is open
pub record IsRaised (ledger : Ledger) (total : ℕ) (content : List ℕ) : Type 0 where
  pub total_is : ledger_total ledger.ratio content ≡ Some total
  pub current : current_slot content ≡ other ledger.current
  pub other_gate : is_open (entry_at ledger.current content) ≡ true

-- where the old disk tells, the new one does, and a crash at any moment between leaves a content that has P
pub record Passes {D : Type 0} (reads : D → Option (List ℕ)) (moment : D → ℕ)
    (left_since : D → ℕ → List ℕ → Type 0) (old new : D) (P : List ℕ → Type 0) : Type 0 where
  pub telling : IsSome (reads old) → IsSome (reads new)
  pub any_moment : IsSome (reads old) → LeavesOnly moment left_since old new P
