-- What a run that makes one release writes, and the draws that it takes.
use Rattle.std.proofs.Common.{◌≡◌, ℕ, true, List, [], ◌++◌, Option, Some, None, Result, Ok, Err, refl, sym, ◌∙◌, ap, subst}
use Rattle.std.specs.Prelude.{OnOk, OnErr, IfErr}
use Rattle.std.specs.Option.{ForSome}
use Rattle.std.proofs.lemmas.List.{append-nil}
use Rattle.dp_count.specs.Slots.{Slot}
use Rattle.dp_draws.specs.Taking.{Turn, Taken, take_draws}
use Rattle.dp_io.specs.Shelf.{Files}
use Rattle.dp_io.specs.Sink.{appended, AddsFront}
use Rattle.dp_law.specs.Releasing.{TakesFront}
use Rattle.dp_runner.specs.declared.stop.Stop.{Stop}
use Rattle.dp_runner.specs.declared.stop.Stop.TheVariants as stop
use Rattle.dp_runner.specs.Causes.{HasDone, Runs}
use Rattle.dp_runner.specs.OneRelease.{PlanForm, by_taken, slot_outcome, slot_shape, release_shape}
use Rattle.dp_runner.specs.Outcome.{Source, Outcome}
use Rattle.dp_runner.specs.Sessions.{Opened, opened_at}
use Rattle.dp_runner.specs.WrittenLines.{are_lines}
use Rattle.dp_runner.proofs.WritesLast.{nothing-gained}

-- the source gave the draws
pub slot-given : (source : Source) (slot : Slot (List ℕ)) (draws last : List ℕ)
    → take_draws source.step source.state slot.shape ≡ record { draws = Some draws; last = last }
    → slot_outcome source slot ≡ record { bytes = slot.out draws; stop = None; last = last }
slot-given source slot draws last gives = ap (λ (taken : Taken). by_taken taken slot.out) gives

-- it did not
slot-failed : (source : Source) (slot : Slot (List ℕ)) (last : List ℕ)
    → take_draws source.step source.state slot.shape ≡ record { draws = None; last = last }
    → slot_outcome source slot ≡ record { bytes = []; stop = Some stop.DrawFault; last = last }
slot-failed source slot last fails = ap (λ (taken : Taken). by_taken taken slot.out) fails

-- the lines were written, or a front of them
pub slot-written : (result : Result (Unit {0}) Stop) (source : Source) (slot : Slot (List ℕ)) (text draws last : List ℕ)
    → (told : Option Files) (faults : ℕ) (old new : Option (List ℕ))
    → take_draws source.step source.state slot.shape ≡ record { draws = Some draws; last = last }
    → text ≡ slot.out draws → are_lines (slot.out draws) ≡ true → OnOk result (new ≡ appended old text)
    → OnErr result (AddsFront old new text) → IfErr result (λ reason. reason ≡ stop.WriteFault)
    → Runs result told (λ files. slot_outcome source slot) faults faults old new last
slot-written (Ok done) source slot text draws last told faults old new gives is whole gained front only = λ files e.
    let ended : HasDone (record { bytes = slot.out draws; stop = None; last = last }) None old new last =
    record { gained = gained ∙ ap (appended old) is; whole = whole; stop_is = refl; last_is = refl } in
    subst (λ (o : Outcome). HasDone o None old new last) (sym (slot-given source slot draws last gives)) ended
slot-written (Err reason) source slot text draws last told faults old new gives is whole gained front only =
    rw only (λ files e.
    subst (λ (o : Outcome). AddsFront old new o.bytes) (sym (slot-given source slot draws last gives))
    (subst (λ (bytes : List ℕ). AddsFront old new bytes) is front))

-- nothing was, since the draws ran out
pub slot-unwritten : (source : Source) (slot : Slot (List ℕ)) (last : List ℕ) (told : Option Files) (faults : ℕ)
    → (held : Option (List ℕ))
    → take_draws source.step source.state slot.shape ≡ record { draws = None; last = last }
    → Runs (Err stop.DrawFault) told (λ files. slot_outcome source slot) faults faults held held last
slot-unwritten source slot last told faults held fails = λ files e.
    let ended : HasDone (record { bytes = []; stop = Some stop.DrawFault; last = last }) (Some stop.DrawFault)
    held held last =
    record { gained = nothing-gained held; whole = refl; stop_is = refl; last_is = refl } in
    subst (λ (o : Outcome). HasDone o (Some stop.DrawFault) held held last)
    (sym (slot-failed source slot last fails)) ended

-- all draws are some first part of them
pub all-taken : (step : List ℕ → ℕ → Turn) (shape before draws after : List ℕ)
    → take_draws step before shape ≡ record { draws = Some draws; last = after } → TakesFront step shape before after
all-taken step shape before draws after gives = (shape, [], draws, sym (append-nil shape), gives)

-- the draws of the release are those of the run
pub release-taken : (step : List ℕ → ℕ → Turn) (before after : List ℕ) (names : PlanForm)
    → (slot : Opened → Slot (List ℕ)) (told : Option Files) (found : Opened)
    → ForSome told (λ files. opened_at names.pipeline_name names.data_name files ≡ Ok found)
    → TakesFront step (slot found).shape before after
    → ForSome told (λ files. TakesFront step (release_shape names slot files) before after)
unfolding release_shape
release-taken step before after names slot told found read h = λ files is.
    subst (λ (shape : List ℕ). TakesFront step shape before after) (sym (ap (slot_shape slot) (read files is))) h
