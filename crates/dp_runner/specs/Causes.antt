-- What the steps of a run may answer, for each way in which a run may end.
use Rattle.std.specs.Prelude.{◌≡◌, ◌⊎◌, ◌++◌, ℕ, List, Option, Some, None, Result, Ok, Err, IsTrue}
use Rattle.std.specs.Option.{ForSome}
use Rattle.dp_count.specs.Faults.{Rose}
use Rattle.dp_io.specs.Shelf.{Files}
use Rattle.dp_io.specs.Sink.{appended, AddsFront}
use Rattle.dp_runner.specs.declared.stop.Stop.{Stop}
use Rattle.dp_runner.specs.declared.stop.Stop.TheVariants as stop
use Rattle.dp_runner.specs.Outcome.{Source, Outcome, Queries}
use Rattle.dp_runner.specs.WrittenLines.{are_lines, AddsLines}

-- the shelf tells its files, and this holds of them
abbrev pub IsTold : Option Files → (Files → Type 0) → Type 0
IsTold told P = (files : Files) × (told ≡ Some files) × P files

-- a step that met neither a failure nor want of memory left the count of faults as it was
abbrev pub Kept : {A : Type 0} → Result A Stop → ℕ → ℕ → Type 0
Kept (Err stop.ReadFault) before now = Unit {0}
Kept (Err stop.NoMemory) before now = Unit {0}
Kept result before now = now ≡ before

-- why a step that reads the files of a form and writes nothing ends a run: as the definition says of the files that
-- are told, or a read fault where the shelf's count of faults rose, or want of memory
abbrev pub HasReason : {A : Type 0} → Stop → Option Files → (Files → Result A Stop) → ℕ → ℕ → Type 0
HasReason stop.Usage told right before now = ⊥
HasReason stop.ReadFault told right before now =
    Rose before now ⊎ IsTold told (λ files. right files ≡ Err stop.ReadFault)
HasReason stop.WriteFault told right before now = ⊥
HasReason stop.NoMemory told right before now = Unit {0}
HasReason reason told right before now = ForSome told (λ files. right files ≡ Err reason)

-- such a step answers what the definition says of the files that are told, or has a reason
abbrev pub Answers : {A B : Type 0} → Result A Stop → (A → B) → Option Files → (Files → Result B Stop) → ℕ → ℕ
    → Type 0
Answers (Ok x) view told right before now = ForSome told (λ files. right files ≡ Ok (view x))
Answers (Err reason) view told right before now = HasReason reason told right before now

-- the run did all that its outcome says, and the bytes are whole lines
pub record HasDone (outcome : Outcome) (ending : Option Stop) (old new : Option (List ℕ)) (last : List ℕ) : Type 0 where
  pub gained : new ≡ appended old outcome.bytes
  pub whole : IsTrue (are_lines outcome.bytes)
  pub stop_is : ending ≡ outcome.stop
  pub last_is : last ≡ outcome.last

-- a read of a text failed: a front of it was given, the rest is left, and the run did what is said of that front
pub record IsInterrupted (text left : Option (List ℕ)) (done : List ℕ → Outcome) (old new : Option (List ℕ))
    (last : List ℕ) : Type 0 where
  pub given : List ℕ
  pub rest : List ℕ
  pub text_is : text ≡ Some (given ++ rest)
  pub left_is : left ≡ Some rest
  pub has_done : HasDone (done given) (Some stop.ReadFault) old new last

-- the same of a command's queries, where it has any and where the files are told
abbrev pub Interrupts : Option Queries → Option Files → Source → Option (List ℕ) → Option (List ℕ) → Option (List ℕ)
    → List ℕ → Type 0
Interrupts queries told source left old new last = ForSome queries (λ asked. ForSome told (λ files.
    IsInterrupted (files asked.name) left (asked.interrupted files source) old new last))

-- a run does what its outcome says; or it ends with a read fault where the shelf's count of faults rose, or with want
-- of memory, both after some of the lines, or with a write fault after a front of the bytes
abbrev pub Runs : Result (Unit {0}) Stop → Option Files → (Files → Outcome) → ℕ → ℕ
    → Option (List ℕ) → Option (List ℕ) → List ℕ → Type 0
Runs (Ok done) told right before now old new last = ForSome told (λ files. HasDone (right files) None old new last)
Runs (Err stop.ReadFault) told right before now old new last =
    (Rose before now × ForSome told (λ files. AddsLines old new (right files).bytes))
    ⊎ IsTold told (λ files. HasDone (right files) (Some stop.ReadFault) old new last)
Runs (Err stop.WriteFault) told right before now old new last =
    ForSome told (λ files. AddsFront old new (right files).bytes)
Runs (Err stop.NoMemory) told right before now old new last =
    ForSome told (λ files. AddsLines old new (right files).bytes)
Runs (Err reason) told right before now old new last =
    ForSome told (λ files. HasDone (right files) (Some reason) old new last)
