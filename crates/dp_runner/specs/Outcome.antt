-- What a run writes and how it ends, where nothing fails: definitions over whole texts.
use Rattle.std.specs.Prelude.{ℕ, List, [], ◌++◌, Bool, Option, Some, None, Result, Ok, Err}
use Rattle.dp_io.specs.Shelf.{Files}
use Rattle.dp_draws.specs.Taking.{Turn}
use Rattle.dp_runner.specs.declared.stop.Stop.{Stop}

-- the draw source that is handed in: its step and its state
pub record Source : Type 0 where
  pub step : List ℕ → ℕ → Turn
  pub state : List ℕ

-- the source of that step in that state
abbrev pub source_at : (List ℕ → ℕ → Turn) → List ℕ → Source
source_at step state = record { step = step; state = state }

-- the bytes that a run writes, the stop that ends it, if one does, and the last state of the source that is handed in
pub record Outcome : Type 0 where
  pub bytes : List ℕ
  pub stop : Option Stop
  pub last : List ℕ

-- the queries that a command answers one line after another
pub record Queries : Type 0 where
  -- the name of their file, which is opened last
  pub name : List ℕ
  -- what its run does where a read of that file fails, by what was given of its text before
  pub interrupted : Files → Source → List ℕ → Outcome

-- what is said of a command's words of one form
pub record Command : Type 0 where
  -- what its run does
  pub outcome : Files → Source → Outcome
  -- how many files its words name
  pub files : ℕ
  -- whether it writes all of its bytes at its end, and nothing before
  pub writes_last : Bool
  -- whether it leaves the draw source that is handed in as it was
  pub keeps_source : Bool
  -- the bounds of the draws that it takes from that source, in order
  pub shape : Files → List ℕ
  -- the queries that it answers, if it answers any
  pub queries : Option Queries

-- a value, or else the end of the run
abbrev pub or_stop : {A : Type 0} → Stop → Option A → Result A Stop
or_stop reason None = Err reason
or_stop reason (Some x) = Ok x

-- a run that goes on with what it read of its files, or ends before it writes anything; the source stays as it was
abbrev pub once_read : {A : Type 0} → Source → (A → Outcome) → Result A Stop → Outcome
once_read source next (Ok x) = next x
once_read source next (Err reason) = record { bytes = []; stop = Some reason; last = source.state }

-- a run that writes all at its end and leaves the source as it was
abbrev pub written_last : Source → Result (List ℕ) Stop → Outcome
written_last source (Ok bytes) = record { bytes = bytes; stop = None; last = source.state }
written_last source (Err reason) = record { bytes = []; stop = Some reason; last = source.state }

-- a run that writes these bytes before
abbrev pub preceded_by : List ℕ → Outcome → Outcome
preceded_by bytes outcome = record { bytes = bytes ++ outcome.bytes; stop = outcome.stop; last = outcome.last }

-- a run that used a draw source of its own: the source that is handed in stays as it was
abbrev pub by_own_draws : Source → Outcome → Outcome
by_own_draws source outcome = record { bytes = outcome.bytes; stop = outcome.stop; last = source.state }

-- no draws, of a command that takes none from the source that is handed in
abbrev pub no_draws : Files → List ℕ
no_draws files = []
