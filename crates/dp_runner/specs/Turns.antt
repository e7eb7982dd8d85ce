-- What the reader and answerer of query lines does, turn by turn.
use Rattle.std.specs.Prelude.{◌≡◌, ◌<◌, ◌≤◌, ℕ, true, false, Bool, List, [], ◌∷◌, length, Option, Some, None, option_map, Result, Ok, Err}
use Rattle.std.specs.Option.{ForSome}
use Rattle.dp_count.specs.Faults.{Rose}
use Rattle.dp_count.specs.Slots.{Slot}
use Rattle.dp_io.specs.Lines.{first_line, after_first_line}
use Rattle.dp_io.specs.Sink.{appended, AddsFront}
use Rattle.dp_law.specs.Releasing.{TakesFront}
use Rattle.dp_session.specs.Sessions.{Drawing, Gives}
use Rattle.dp_runner.specs.declared.stop.Stop.{Stop}
use Rattle.dp_runner.specs.declared.stop.Stop.TheVariants as stop
use Rattle.dp_runner.specs.Answering.{Answering}
use Rattle.dp_runner.specs.Causes.{HasDone}
use Rattle.dp_runner.specs.Outcome.{Outcome}
use Rattle.dp_runner.specs.WrittenLines.{are_lines, AddsLines}

-- what a run that answers query lines does, where its outcome is told: all of it; or it ends with a read fault
-- where the shelf's count of faults rose, or with want of memory, both after some of the lines, or with a write
-- fault after a front of the bytes
abbrev pub RunsTo : Result (Unit {0}) Stop → Option Outcome → ℕ → ℕ → Option (List ℕ) → Option (List ℕ) → List ℕ
    → Type 0
RunsTo (Ok done) told before now old new last = ForSome told (λ outcome. HasDone outcome None old new last)
RunsTo (Err stop.ReadFault) told before now old new last =
    Rose before now × ForSome told (λ outcome. AddsLines old new outcome.bytes)
RunsTo (Err stop.WriteFault) told before now old new last = ForSome told (λ outcome. AddsFront old new outcome.bytes)
RunsTo (Err stop.NoMemory) told before now old new last = ForSome told (λ outcome. AddsLines old new outcome.bytes)
RunsTo (Err reason) told before now old new last =
    ForSome told (λ outcome. HasDone outcome (Some reason) old new last)

-- whatever the draws, each line that is written is whole, and so is the last
pub record WritesLines (answering : Answering) : Type 0 where
  pub each : (past : List (List ℕ)) (line draws : List ℕ) → are_lines ((answering.slot past line).out draws) ≡ true
  pub last : (past : List (List ℕ)) → are_lines (answering.last_line past) ≡ true

-- what an answer to a line leaves of its draw source and its output, where the slot has the bounds of the
-- line's draws and what is written by them. After Ok the draws were taken and the output gained the line; after
-- a draw fault they could not be taken, and nothing was written; after a write fault they were, and a front of
-- the line was written; without memory some first part of them was taken, and nothing was written
abbrev pub AnswersSlot : Result (Unit {0}) Stop → Drawing → Slot (List ℕ) → Option (List ℕ) → Option (List ℕ) → Type 0
AnswersSlot (Ok done) source slot old new =
    (draws : List ℕ) × Gives source slot.shape (Some draws) × (new ≡ appended old (slot.out draws))
AnswersSlot (Err stop.DrawFault) source slot old new = Gives source slot.shape None × (new ≡ old)
AnswersSlot (Err stop.WriteFault) source slot old new =
    (draws : List ℕ) × Gives source slot.shape (Some draws) × AddsFront old new (slot.out draws)
AnswersSlot (Err stop.NoMemory) source slot old new =
    TakesFront source.step slot.shape source.before source.after × (new ≡ old)
AnswersSlot (Err reason) source slot old new = ⊥

-- the first line of a text is there, and is of at most 65,536 bytes
pub record IsFirst (line text : List ℕ) : Type 0 where
  pub some : 0 < length text
  pub line_is : line ≡ first_line text
  pub short : length line ≤ 65536

-- a line was read, and this came of answering it
pub record Reads (result : Result (Unit {0}) Stop) (answering : Answering) (past : List (List ℕ)) (source : Drawing)
    (left old new : Option (List ℕ)) : Type 0 where
  pub line : List ℕ
  pub first : ForSome left (λ text. IsFirst line text)
  pub answers : AnswersSlot result source (answering.slot past line) old new

-- a line was read and answered: its line was written, and what answers stands at it too
pub record Answered (stands : List (List ℕ) → Type 0) (answering : Answering) (past : List (List ℕ)) (source : Drawing)
    (left rest old new : Option (List ℕ)) : Type 0 where
  pub reads : Reads (Ok tt) answering past source left old new
  pub rest_is : rest ≡ option_map after_first_line left
  pub stands_at : stands (reads.line ∷ past)

-- no draw was taken and nothing was written
abbrev pub Nothing : Drawing → Option (List ℕ) → Option (List ℕ) → Type 0
Nothing source old new = (source.after ≡ source.before) × (new ≡ old)

-- what a turn does where some lines were answered: it answers the next line, or comes to the end of the text with
-- nothing done, or to a line that is too long, or has a fault
abbrev pub Turns : Result Bool Stop → (List (List ℕ) → Type 0) → Answering → List (List ℕ) → Drawing
    → Option (List ℕ) → Option (List ℕ) → Option (List ℕ) → Option (List ℕ) → Type 0
Turns (Ok true) stands answering past source left rest old new =
    Answered stands answering past source left rest old new
Turns (Ok false) stands answering past source left rest old new =
    ForSome left (λ text. text ≡ []) × Nothing source old new × stands past
Turns (Err stop.ReadFault) stands answering past source left rest old new = Nothing source old new
Turns (Err stop.DrawFault) stands answering past source left rest old new =
    Reads (Err stop.DrawFault) answering past source left old new
Turns (Err stop.WriteFault) stands answering past source left rest old new =
    Reads (Err stop.WriteFault) answering past source left old new
Turns (Err stop.NoMemory) stands answering past source left rest old new =
    Reads (Err stop.NoMemory) answering past source left old new
Turns (Err stop.QueryLimit) stands answering past source left rest old new =
    ForSome left (λ text. 65536 < length (first_line text)) × Nothing source old new
Turns (Err reason) stands answering past source left rest old new = ⊥

-- what the end does: it writes the last line, or a front of it
abbrev pub Ends : Result (Unit {0}) Stop → List ℕ → Option (List ℕ) → Option (List ℕ) → Type 0
Ends (Ok done) line old new = new ≡ appended old line
Ends (Err stop.WriteFault) line old new = AddsFront old new line
Ends (Err reason) line old new = ⊥
