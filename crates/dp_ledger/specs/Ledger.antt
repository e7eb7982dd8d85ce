-- What a ledger is, and when it stands on a disk.
use Rattle.std.specs.Prelude.{◌≡◌, ◌⊎◌, ◌+◌, ℕ, Bool, false, List, Option, Some, None, Result, Ok, Err, if◌then◌else◌, nat_lt}
use Rattle.std.specs.Option.{ForSome}
use Rattle.dp_num.specs.Limits.{most_units}
use Rattle.dp_num.specs.declared.ratio.Ratio.{Ratio}
use Rattle.dp_ledger.specs.declared.faults.ChargeFault.{ChargeFault}
use Rattle.dp_ledger.specs.declared.faults.ChargeFault.TheVariants as charge_fault
use Rattle.dp_ledger.specs.declared.ledger.Ledger.{Ledger}
use Rattle.dp_ledger.specs.Disk.{Only}
use Rattle.dp_ledger.specs.Image.{ledger_total, current_slot, entry_at, is_open, other}

-- the total, in units
abbrev pub total_of : Ledger → ℕ
total_of ledger = ledger.total

abbrev pub ratio_of : Ledger → Ratio
ratio_of ledger = ledger.ratio

-- whether a charge failed
abbrev pub is_closed : Ledger → Bool
is_closed ledger = ledger.closed

-- the content is an image of the ledger's ratio, total and current slot, and the other gate is as the ledger says
pub record Shows (ledger : Ledger) (content : List ℕ) : Type 0 where
  pub total : ledger_total ledger.ratio content ≡ Some ledger.total
  pub current : current_slot content ≡ ledger.current
  pub other_gate : is_open (entry_at (other ledger.current) content) ≡ ledger.other_open

-- where the disk tells, it reads as a content that has P, and a crash leaves that alone
abbrev pub Rests : {D : Type 0} → (D → Option (List ℕ)) → (D → List ℕ → Type 0) → D
    → (List ℕ → Type 0) → Type 0
Rests reads may_leave disk P = ForSome (reads disk) (λ content. P content × Only content (may_leave disk))

-- the ledger stands on the disk: it is not closed and, where the disk tells, that is the ledger's image and a crash
-- leaves it alone
pub record IsOn {D : Type 0} (reads : D → Option (List ℕ)) (may_leave : D → List ℕ → Type 0)
    (disk : D) (ledger : Ledger) : Type 0 where
  pub not_closed : is_closed ledger ≡ false
  pub rests : Rests reads may_leave disk (Shows ledger)

-- a ledger of the ratio with this total
abbrev pub HasTotal : Ratio → ℕ → List ℕ → Type 0
HasTotal ratio total content = ledger_total ratio content ≡ Some total

-- a ledger of the ratio with the total before a charge or the one after it
abbrev pub BeforeOrAfter : Ratio → ℕ → ℕ → List ℕ → Type 0
BeforeOrAfter ratio total by content = HasTotal ratio total content ⊎ HasTotal ratio (total + by) content

-- the refusal of a charge that comes before any call of the disk, in this order, where one comes
abbrev pub refusal : Ledger → ℕ → Option ChargeFault
refusal ledger by =
    if is_closed ledger then Some charge_fault.Closed
    else if nat_lt most_units (total_of ledger + by) then Some (charge_fault.Full (total_of ledger) by)
    else None

-- the refusal that a charge answered; a fault of the disk is none
abbrev pub refused_by : {T : Type 0} → Result T ChargeFault → Option ChargeFault
refused_by (Ok x) = None
refused_by (Err charge_fault.DiskFault) = None
refused_by (Err charge_fault.Closed) = Some charge_fault.Closed
refused_by (Err (charge_fault.Full total by)) = Some (charge_fault.Full total by)
