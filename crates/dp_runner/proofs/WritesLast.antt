-- A command that writes all at its end, and nothing where it ends early.
use Rattle.std.proofs.Common.{◌≡◌, ℕ, true, List, [], Option, Some, None, Result, Ok, Err, refl, sym, ap, inl, inr}
use Rattle.std.specs.Option.{ForSome}
use Rattle.std.proofs.lemmas.List.{append-nil}
use Rattle.dp_io.specs.Shelf.{Files}
use Rattle.dp_io.specs.Sink.{appended, AddsFront}
use Rattle.dp_runner.specs.declared.stop.Stop.{Stop}
use Rattle.dp_runner.specs.declared.stop.Stop.TheVariants as stop
use Rattle.dp_runner.specs.Outcome.{Source, written_last}
use Rattle.dp_runner.specs.Causes.{HasReason, HasDone, Runs}
use Rattle.dp_runner.specs.Laws.{IsDone}
use Rattle.dp_runner.specs.WrittenLines.{are_lines, AddsLines}

pub nothing-gained : (held : Option (List ℕ)) → held ≡ appended held []
nothing-gained None = refl
nothing-gained (Some bytes) = ap Some (sym (append-nil bytes))

-- nothing was written
pub lines-none : (bytes : List ℕ) (held : Option (List ℕ)) → AddsLines held held bytes
lines-none bytes held = record {
  gains = record { front = []; rest = bytes; split = refl; gained = nothing-gained held };
  whole = refl;
}

-- the run ended as its definition does, with nothing written
done-none : (source : Source) (right : Result (List ℕ) Stop) (reason : Stop) (held : Option (List ℕ)) → right ≡ Err reason
    → HasDone (written_last source right) (Some reason) held held source.state
done-none source right reason held e = rw e (record { gained = nothing-gained held; whole = refl; stop_is = refl; last_is = refl })

done-all : (source : Source) (right : Result (List ℕ) Stop) (bytes : List ℕ) (old new : Option (List ℕ)) → right ≡ Ok bytes → are_lines bytes ≡ true → new ≡ appended old bytes
    → HasDone (written_last source right) None old new source.state
done-all source right bytes old new e lines gained = rw e (record { gained = gained; whole = lines; stop_is = refl; last_is = refl })

front-some : (source : Source) (right : Result (List ℕ) Stop) (bytes : List ℕ) (old new : Option (List ℕ)) → right ≡ Ok bytes → AddsFront old new bytes → AddsFront old new (written_last source right).bytes
front-some source right bytes old new e front = rw e front

-- a run that has a reason to end before it writes
pub runs-reason : (reason : Stop) (source : Source) (told : Option Files) (right : Files → Result (List ℕ) Stop) (before now : ℕ) (held : Option (List ℕ))
    → HasReason reason told right before now → Runs (Err reason) told (λ files. written_last source (right files)) before now held held source.state
runs-reason stop.Usage source told right before now held h = absurd h
runs-reason stop.ReadFault source told right before now held (inl rose) = inl (rose, λ files e. lines-none _ held)
runs-reason stop.ReadFault source told right before now held (inr w) = inr (w.0, w.1, done-none source (right w.0) stop.ReadFault held w.2)
runs-reason stop.WriteFault source told right before now held h = absurd h
runs-reason stop.NoMemory source told right before now held h = λ files e. lines-none _ held
runs-reason reason source told right before now held h = λ files e. done-none source (right files) reason held (h files e)

-- a run that wrote all
pub runs-all : (source : Source) (told : Option Files) (right : Files → Result (List ℕ) Stop) (before now : ℕ) (old new : Option (List ℕ)) (bytes : List ℕ)
    → ForSome told (λ files. right files ≡ Ok bytes) → ForSome told (λ files. are_lines bytes ≡ true) → new ≡ appended old bytes
    → Runs (Ok tt) told (λ files. written_last source (right files)) before now old new source.state
runs-all source told right before now old new bytes h lines gained = λ files e. done-all source (right files) bytes old new (h files e) (lines files e) gained

-- a run that wrote a front
pub runs-front : (source : Source) (told : Option Files) (right : Files → Result (List ℕ) Stop) (before now : ℕ) (old new : Option (List ℕ)) (bytes : List ℕ)
    → ForSome told (λ files. right files ≡ Ok bytes) → AddsFront old new bytes
    → Runs (Err stop.WriteFault) told (λ files. written_last source (right files)) before now old new source.state
runs-front source told right before now old new bytes h front = λ files e. front-some source (right files) bytes old new (h files e) front

-- what nothing stops
pub done-written : (source : Source) (right : Result (List ℕ) Stop) (bytes : List ℕ) → right ≡ Ok bytes → IsDone (written_last source right) bytes source.state
done-written source right bytes e = rw e (record { bytes_are = refl; stop_is = refl; last_is = refl })
