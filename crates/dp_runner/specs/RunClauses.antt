-- What the clauses of a whole run say.
use Rattle.std.specs.Prelude.{◌≡◌, ◌≢◌, ◌⊎◌, ℕ, List, Option, Some, IsTrue}
use Rattle.std.specs.Option.{ForSome}
use Rattle.dp_count.specs.Faults.{Rose}
use Rattle.dp_io.specs.Shelf.{Files}
use Rattle.dp_io.specs.Sink.{appended, AddsFront}
use Rattle.dp_runner.specs.declared.stop.Stop.{Stop}
use Rattle.dp_runner.specs.declared.stop.Stop.TheVariants as stop
use Rattle.dp_runner.specs.Outcome.{Outcome}
use Rattle.dp_runner.specs.Stops.{status_at, line_at}
use Rattle.dp_runner.specs.WrittenLines.{are_lines}

-- the run wrote the outcome's bytes, ended with its status and left the draw source that was handed in in its last
-- state
pub record IsOutcome (outcome : Outcome) (old new : Option (List ℕ)) (status : ℕ) (last : List ℕ)
    : Type 0 where
  pub bytes : new ≡ appended old outcome.bytes
  pub status_is : status ≡ status_at outcome.stop
  pub last_is : last ≡ outcome.last

-- the run stopped because a pipeline is refused
abbrev pub IsRefused : Option Stop → Type 0
IsRefused (Some (stop.Pipeline c)) = Unit {0}
IsRefused _ = ⊥

-- the output gained a front of the bytes, whole lines unless the run ended with the status of a write fault
pub record GainsLines (bytes : List ℕ) (old new : Option (List ℕ)) (status : ℕ) : Type 0 where
  pub gains : AddsFront old new bytes
  pub whole : status ≢ 5 → IsTrue (are_lines gains.front)

-- the error output gained a line, or a front of it where its count of faults rose
abbrev pub GainsMessage : List ℕ → Option (List ℕ) → Option (List ℕ) → ℕ → ℕ → Type 0
GainsMessage line old new before now = (new ≡ appended old line) ⊎ (Rose before now × AddsFront old new line)

-- what ended a run: its status and the line on the error output are the stop's, and the stop is the outcome's, unless
-- the status is that of a failure or of want of memory
pub record Ending (told : Option Files) (right : Files → Outcome) (status : ℕ) (old new : Option (List ℕ))
    (before now : ℕ) : Type 0 where
  pub stop : Option Stop
  pub status_is : status ≡ status_at stop
  pub message : GainsMessage (line_at stop) old new before now
  pub settled : status ≢ 4 → status ≢ 5 → status ≢ 9 → ForSome told (λ files. stop ≡ (right files).stop)
