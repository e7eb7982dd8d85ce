-- What a release leaves of its draw source.
use Rattle.std.specs.Prelude.{◌≡◌, ℕ, ◌≤◌, List, ◌++◌, Some, None, option_map, Result, Ok, Err}
use Rattle.dp_count.specs.Faults.{Rose}
use Rattle.dp_draws.specs.Taking.{Turn, take_draws}
use Rattle.dp_law.specs.declared.pieces.Piece.{Piece}
use Rattle.dp_law.specs.declared.faults.ReleaseFault.{ReleaseFault}
use Rattle.dp_law.specs.declared.faults.ReleaseFault.TheVariants as fault

-- the state after is where taking some first part of the shape leaves the state before
abbrev pub TakesFront : (List ℕ → ℕ → Turn) → List ℕ → List ℕ → List ℕ → Type 0
TakesFront step shape before after =
    (front rest draws : List ℕ) × (shape ≡ front ++ rest)
    × (take_draws step before front ≡ record { draws = Some draws; last = after })

-- an answer is the function's on the draws that are taken for the shape, and a draw fault comes where they can't be
-- taken; after both the source is in taking's last state; without memory some first part was taken
abbrev pub Released : (List ℕ → ℕ → Turn) → List ℕ → (List ℕ → List Piece) → List ℕ → Result (List Piece) ReleaseFault
    → List ℕ → Type 0
Released step shape function before (Ok answer) after =
    (Some answer ≡ option_map function (take_draws step before shape).draws)
    × (after ≡ (take_draws step before shape).last)
Released step shape function before (Err fault.DrawFault) after =
    ((take_draws step before shape).draws ≡ None) × (after ≡ (take_draws step before shape).last)
Released step shape function before (Err fault.NoMemory) after = TakesFront step shape before after

-- without memory no draw was taken, as in a measurement of one part, which takes its memory first
abbrev pub MemoryFirst : List ℕ → Result (List Piece) ReleaseFault → List ℕ → Type 0
MemoryFirst before (Ok answer) after = Unit {0}
MemoryFirst before (Err fault.DrawFault) after = Unit {0}
MemoryFirst before (Err fault.NoMemory) after = after ≡ before

-- a draw fault made the source's count of faults rise, and any other answer left it as it was
abbrev pub RoseAtFault : ℕ → ℕ → Result (List Piece) ReleaseFault → Type 0
RoseAtFault before now (Ok answer) = now ≡ before
RoseAtFault before now (Err fault.DrawFault) = Rose before now
RoseAtFault before now (Err fault.NoMemory) = now ≡ before

-- the count of faults did not fall, and it rose at a draw fault alone
pub record ReleaseCause (before now : ℕ) (result : Result (List Piece) ReleaseFault) : Type 0 where
  pub later : before ≤ now
  pub failed : RoseAtFault before now result
