-- A text of query lines that are answered one after the other.
use Rattle.std.specs.Prelude.{ℕ, ◌^◌, ◌++◌, Bool, not, List, [], length, reverse, Some, None, if◌then◌else◌, option_map}
use Rattle.std.specs.Option.{unwrap_or}
use Rattle.dp_count.specs.Slots.{Slot, joined_shape}
use Rattle.dp_domain.specs.declared.values.Value.{Value}
use Rattle.dp_io.specs.Lines.{lines_within, has_line_over, ended_lines}
use Rattle.dp_io.specs.Shelf.{Files}
use Rattle.dp_pipeline.specs.declared.content.Content.{Content}
use Rattle.dp_session.specs.QueryLines.{end_line}
use Rattle.dp_session.specs.SessionLines.{Ran, account_slot, line_slots, run_slots, session_slot}
use Rattle.dp_session.specs.Verdicts.{root_spent}
use Rattle.dp_runner.specs.declared.stop.Stop.TheVariants as stop
use Rattle.dp_runner.specs.Outcome.{Source, Outcome, or_stop, once_read}

-- how query lines are answered, by those before, newest first: of each line the bounds of its draws and what is
-- written by them, and what is written last
pub record Answering : Type 0 where
  pub slot : List (List ℕ) → List ℕ → Slot (List ℕ)
  pub last_line : List (List ℕ) → List ℕ

-- the last line after some queries, newest first
abbrev pub end_after : Content → List (List ℕ) → List ℕ
end_after pipeline past = end_line (length past) (root_spent pipeline past)

-- an account of a pipeline: no draws are taken
abbrev pub account_answering : Content → Answering
account_answering pipeline = record { slot = account_slot pipeline; last_line = end_after pipeline }

-- a session of a pipeline on a value of its root
abbrev pub session_answering : Content → Value → Answering
session_answering pipeline root = record { slot = session_slot pipeline root; last_line = end_after pipeline }

-- how a run ends whose lines came to this on its draw source: at a draw that was not given; else at a line that
-- is over; else with the last line
abbrev pub ends : Ran → Bool → List ℕ → Outcome
ends ran over last_line =
    if not ran.enough then record { bytes = ran.bytes; stop = Some stop.DrawFault; last = ran.last }
    else if over then record { bytes = ran.bytes; stop = Some stop.QueryLimit; last = ran.last }
    else record { bytes = ran.bytes ++ last_line; stop = None; last = ran.last }

-- a text of queries on a draw source: all lines before the first that is over, each written by the draws that
-- the source gives for it, up to a draw that is not given
unfoldable pub answered : Source → Answering → List ℕ → Outcome
answered source answering text =
    let lines = lines_within (2 ^ 20) text in
    ends (run_slots source.step (line_slots answering.slot [] lines) source.state) (has_line_over (2 ^ 20) text)
    (answering.last_line (reverse lines))

-- the bounds of its draws, in order
unfoldable pub answered_shape : Answering → List ℕ → List ℕ
answered_shape answering text = joined_shape (line_slots answering.slot [] (lines_within (2 ^ 20) text))

-- the queries of which this much was given, and then a read failed: each line whose line feed was given is written
-- by the draws that the source gives for it, and nothing of what comes after the last line feed
unfoldable pub interrupted : Source → Answering → List ℕ → Outcome
interrupted source answering given =
    let ran = run_slots source.step (line_slots answering.slot [] (ended_lines given)) source.state in
    record {
      bytes = ran.bytes;
      stop = Some (if ran.enough then stop.ReadFault else stop.DrawFault);
      last = ran.last;
    }

-- the queries of a file; a run ends before it writes where the file is not there
abbrev pub file_answered : Source → Answering → Files → List ℕ → Outcome
file_answered source answering files name =
    once_read source (answered source answering) (or_stop stop.ReadFault (files name))

-- the bounds of its draws, in order: none where the file is not there
abbrev pub file_shape : Answering → Files → List ℕ → List ℕ
file_shape answering files name = unwrap_or (option_map (answered_shape answering) (files name)) []
