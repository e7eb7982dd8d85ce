-- What a run does that answers the queries of a file.
use Rattle.std.proofs.Common.{◌≡◌, ◌∙◌, ◌≤◌, ◌⊎◌, ℕ, false, List, [], Option, Some, None, IsSome, option_map, Result, Ok, Err, refl, sym, ap, inl, inr, subst, ⊎_elim}
use Rattle.std.specs.Option.{ForSome, unwrap_or}
use Rattle.dp_count.specs.Faults.{Rose}
use Rattle.dp_draws.specs.Taking.{Turn}
use Rattle.dp_draws.proofs.Taking.{take_draws-none}
use Rattle.dp_io.specs.declared.faults.OpenFault.{OpenFault}
use Rattle.dp_io.specs.declared.faults.OpenFault.TheVariants as open_fault
use Rattle.dp_io.specs.Lines.{LinesValue, remaining}
use Rattle.dp_io.specs.Shelf.{Files, StartsFile, LacksFile}
use Rattle.dp_law.specs.Releasing.{TakesFront}
use Rattle.dp_runner.specs.declared.stop.Stop.{Stop}
use Rattle.dp_runner.specs.declared.stop.Stop.TheVariants as stop
use Rattle.dp_runner.specs.Answering.{Answering, answered, answered_shape, file_answered, file_shape}
use Rattle.dp_runner.specs.Causes.{HasReason, IsInterrupted, Runs}
use Rattle.dp_runner.specs.Outcome.{Source, Outcome, or_stop, once_read}
use Rattle.dp_runner.specs.Stops.{stop_of_open}
use Rattle.dp_runner.specs.Turns.{RunsTo}
use Rattle.dp_runner.proofs.Steps.{rose-late}

lacks-told : (told : Option Files) (name : List ℕ) → LacksFile told name → (files : Files) × (told ≡ Some files) × (files name ≡ None)
lacks-told None name h = absurd h
lacks-told (Some files) name h = (files, refl, h)

-- a fault of opening a file
pub open-reason : (fault : OpenFault) (told : Option Files) (name : List ℕ) (before now : ℕ)
    → (fault ≡ open_fault.Failed → Rose before now ⊎ LacksFile told name)
    → HasReason (stop_of_open fault) told (λ files. or_stop stop.ReadFault (files name)) before now
open-reason open_fault.Failed told name before now cause =
    ⊎_elim (λ rose. inl rose)
    (λ lacks. let w = lacks-told told name lacks in inr (w.0, w.1, ap (or_stop stop.ReadFault) w.2))
    (cause refl)
open-reason open_fault.NoMemory told name before now cause = tt

pub runs-told : (result : Result (Unit {0}) Stop) (told : Option Files) (right : Files → Outcome) (coming : Option Outcome)
    (before mid now : ℕ)
    (old new : Option (List ℕ)) (last : List ℕ)
    → before ≤ mid → ((files : Files) → told ≡ Some files → coming ≡ Some (right files))
    → RunsTo result coming mid now old new last → Runs result told right before now old new last
runs-told (Ok done) told right coming before mid now old new last early same h = λ files e. h (right files) (same files e)
runs-told (Err stop.ReadFault) told right coming before mid now old new last early same h =
    inl (rose-late before mid now early h.0, λ files e. h.1 (right files) (same files e))
runs-told (Err stop.WriteFault) told right coming before mid now old new last early same h = λ files e. h (right files) (same files e)
runs-told (Err stop.NoMemory) told right coming before mid now old new last early same h = λ files e. h (right files) (same files e)
runs-told (Err reason) told right coming before mid now old new last early same h = λ files e. h (right files) (same files e)

some-is : (found : Option (List ℕ)) → IsSome found → (text : List ℕ) × (found ≡ Some text)
some-is None h = absurd (cc)
some-is (Some text) h = (text, refl)

-- an opened file starts with its whole text
pub file-told : (told : Option Files) (files : Files) (name : List ℕ) (left : Option (List ℕ)) → told ≡ Some files
    → StartsFile told name left
    → (text : List ℕ) × (files name ≡ Some text) × (left ≡ Some text)
file-told None files name left e h = absurd (cc)
file-told (Some others) files name left e h =
    let same : others ≡ files = cc in
    let found = some-is (files name) (rw same at h.0) in
    (found.0, found.1, h.1 ∙ ap (λ (f : Files). f name) same ∙ found.1)

-- nothing was read ahead
remaining-fresh : (lines : LinesValue) (slot : ℕ) (left : Option (List ℕ)) (text : List ℕ)
    → lines ≡ record { slot = slot; line = []; read_ahead = []; at_end = false } → left ≡ Some text → remaining lines left ≡ Some text
remaining-fresh lines slot left text fresh is = rw (fresh, is) refl

-- what is told at the start: the reader of lines begins at the front of the file
pub told-file : (source : Source) (answering : Answering) (told : Option Files) (files : Files) (name : List ℕ) (lines : LinesValue)
    (slot : ℕ)
    (left : Option (List ℕ))
    → lines ≡ record { slot = slot; line = []; read_ahead = []; at_end = false } → told ≡ Some files → StartsFile told name left
    → option_map (answered source answering) (remaining lines left) ≡ Some (file_answered source answering files name)
told-file source answering told files name lines slot left fresh is starts =
    let found = file-told told files name left is starts in
    ap (option_map (answered source answering)) (remaining-fresh lines slot left found.0 fresh found.2)
    ∙ ap (λ (text : Option (List ℕ)). Some (once_read source (answered source answering) (or_stop stop.ReadFault text))) (sym found.1)

-- what is taken of the draws of what remains is taken of those of the file
pub file-taken : (step : List ℕ → ℕ → Turn) (before after : List ℕ) (answering : Answering) (told : Option Files) (name : List ℕ)
    (lines : LinesValue)
    (slot : ℕ) (left : Option (List ℕ))
    → lines ≡ record { slot = slot; line = []; read_ahead = []; at_end = false } → StartsFile told name left
    → ForSome (remaining lines left) (λ text. TakesFront step (answered_shape answering text) before after)
    → ForSome told (λ files. TakesFront step (file_shape answering files name) before after)
file-taken step before after answering told name lines slot left fresh starts h = λ files is.
    let found = file-told told files name left is starts in
    let shape : Option (List ℕ) → List ℕ = λ text. unwrap_or (option_map (answered_shape answering) text) [] in
    subst (λ (text : Option (List ℕ)). TakesFront step (shape text) before after) (sym found.1)
    (h found.0 (remaining-fresh lines slot left found.0 fresh found.2))

-- a read of what is left of the file failed
pub file-interrupted : (told : Option Files) (files : Files) (name : List ℕ) (lines : LinesValue) (slot opened : ℕ) (left : Option (List ℕ))
    (now : ℕ → Option (List ℕ)) (part : List ℕ → Outcome) (old new : Option (List ℕ)) (last : List ℕ)
    → lines ≡ record { slot = slot; line = []; read_ahead = []; at_end = false } → told ≡ Some files → StartsFile told name left
    → opened ≡ lines.slot
    → ForSome (remaining lines left) (λ text. IsInterrupted (Some text) (now lines.slot) part old new last)
    → IsInterrupted (files name) (now opened) part old new last
file-interrupted told files name lines slot opened left now part old new last fresh is starts same h =
    let found = file-told told files name left is starts in
    rw (found.1, same) (h found.0 (remaining-fresh lines slot left found.0 fresh found.2))

-- no draw was taken
pub none-taken : (step : List ℕ → ℕ → Turn) (shape state : List ℕ) → TakesFront step shape state state
none-taken step shape state = ([], shape, [], refl, take_draws-none step state)
