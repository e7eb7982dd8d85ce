-- What a whole run's clauses say, from how the run ended.
use Rattle.std.proofs.Common.{◌≡◌, ◌≢◌, ℕ, List, [], Option, Some, Err, refl, sym, ap, arith, inl, inr}
use Rattle.std.specs.Option.{ForSome}
use Rattle.std.proofs.lemmas.List.{append-nil}
use Rattle.dp_count.specs.Faults.{Rose, Still}
use Rattle.dp_io.specs.Shelf.{Files}
use Rattle.dp_runner.specs.declared.stop.Stop.{Stop}
use Rattle.dp_runner.specs.declared.stop.Stop.TheVariants as stop
use Rattle.dp_runner.specs.Stops.{row_of, status_at}
use Rattle.dp_runner.specs.Outcome.{Outcome}
use Rattle.dp_runner.specs.Causes.{HasDone, Runs, IsTold}
use Rattle.dp_runner.specs.RunClauses.{IsOutcome, Ending, GainsLines, GainsMessage}
use Rattle.dp_runner.specs.WrittenLines.{AddsLines}

-- all was done: the run's outcome
pub done-outcome : (outcome : Outcome) (ending : Option Stop) (old new : Option (List ℕ)) (last : List ℕ) → HasDone outcome ending old new last → IsOutcome outcome old new (status_at ending) last
done-outcome outcome ending old new last h = record { bytes = h.gained; status_is = ap status_at h.stop_is; last_is = h.last_is }

pub done-lines : (outcome : Outcome) (ending : Option Stop) (old new : Option (List ℕ)) (last : List ℕ) (status : ℕ) → HasDone outcome ending old new last → GainsLines outcome.bytes old new status
done-lines outcome ending old new last status h = record {
  gains = record { front = outcome.bytes; rest = []; split = sym (append-nil outcome.bytes); gained = h.gained };
  whole = λ _. h.whole;
}

some-lines : (bytes : List ℕ) (old new : Option (List ℕ)) (status : ℕ) → AddsLines old new bytes → GainsLines bytes old new status
some-lines bytes old new status h = record { gains = h.gains; whole = λ _. h.whole }

-- the files that are told are one
told-once : (P : Files → Type 0) (told : Option Files) (files : Files) → told ≡ Some files → IsTold told P → P files
told-once P told files e w =
    let same : w.0 ≡ files = cc (sym w.1, e) in
    rw same at w.2

-- a run that ended early, and not by a failure or want of memory, did what its outcome says
pub early-settled : (reason : Stop) (told : Option Files) (right : Files → Outcome) (before now : ℕ) (old new : Option (List ℕ)) (last : List ℕ)
    → Runs (Err reason) told right before now old new last → (row_of reason).status ≢ 4 → (row_of reason).status ≢ 5 → (row_of reason).status ≢ 9
    → ForSome told (λ files. HasDone (right files) (Some reason) old new last)
early-settled stop.ReadFault told right before now old new last h four five nine = absurd (four refl)
early-settled stop.WriteFault told right before now old new last h four five nine = absurd (five refl)
early-settled stop.NoMemory told right before now old new last h four five nine = absurd (nine refl)
early-settled _ told right before now old new last h four five nine = h

-- a run that ended early where no count rose did what its outcome says, unless memory ran out
pub early-outcome : (reason : Stop) (told : Option Files) (right : Files → Outcome) (before now : ℕ) (old new : Option (List ℕ)) (last : List ℕ) (out_before out_now : ℕ)
    → Runs (Err reason) told right before now old new last → (reason ≡ stop.WriteFault → Rose out_before out_now)
    → Still before now → Still out_before out_now → (row_of reason).status ≢ 9 → ForSome told (λ files. HasDone (right files) (Some reason) old new last)
early-outcome stop.ReadFault told right before now old new last ob on (inl rose) wrote still out_still nine =
    let r = rose.0 in absurd (omega arith)
early-outcome stop.ReadFault told right before now old new last ob on (inr w) wrote still out_still nine = λ files e. told-once (λ f. HasDone (right f) (Some stop.ReadFault) old new last) told files e w
early-outcome stop.WriteFault told right before now old new last ob on h wrote still out_still nine =
    let r = wrote refl in absurd (omega arith)
early-outcome stop.NoMemory told right before now old new last ob on h wrote still out_still nine = absurd (nine refl)
early-outcome _ told right before now old new last ob on h wrote still out_still nine = h

-- a run that ended early gained a front of its outcome's bytes
pub early-lines : (reason : Stop) (told : Option Files) (right : Files → Outcome) (before now : ℕ) (old new : Option (List ℕ)) (last : List ℕ)
    → Runs (Err reason) told right before now old new last → ForSome told (λ files. GainsLines (right files).bytes old new (row_of reason).status)
early-lines stop.ReadFault told right before now old new last (inl rose) = λ files e. some-lines (right files).bytes old new 4 (rose.1 files e)
early-lines stop.ReadFault told right before now old new last (inr w) = λ files e.
    done-lines (right files) (Some stop.ReadFault) old new last 4 (told-once (λ f. HasDone (right f) (Some stop.ReadFault) old new last) told files e w)
early-lines stop.WriteFault told right before now old new last h = λ files e. record { gains = h files e; whole = λ n. absurd (n refl) }
early-lines stop.NoMemory told right before now old new last h = λ files e. some-lines (right files).bytes old new 9 (h files e)
early-lines reason told right before now old new last h = λ files e. done-lines (right files) (Some reason) old new last (row_of reason).status (h files e)

-- what ended a run early
pub early-ending : (reason : Stop) (told : Option Files) (right : Files → Outcome) (before now : ℕ) (old new : Option (List ℕ)) (last : List ℕ)
    (status : ℕ) (err_old err_new : Option (List ℕ)) (err_before err_now : ℕ)
    → Runs (Err reason) told right before now old new last → status ≡ (row_of reason).status → GainsMessage (row_of reason).line err_old err_new err_before err_now
    → Ending told right status err_old err_new err_before err_now
early-ending reason told right before now old new last status err_old err_new err_before err_now h is message = record {
  stop = Some reason;
  status_is = is;
  message = message;
  settled = rw is (λ four five nine files e. (early-settled reason told right before now old new last h four five nine files e).stop_is);
}
