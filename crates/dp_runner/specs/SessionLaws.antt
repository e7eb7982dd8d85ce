-- A text of queries on data and a draw source: its three cases, by the draws of all queries, taken in order.
use Rattle.std.specs.Prelude.{◌≡◌, ◌^◌, ◌++◌, ℕ, List, ◌∷◌, [], true, false, reverse, Some, None}
use Rattle.std.specs.List.{concat}
use Rattle.dp_count.specs.Slots.{replies}
use Rattle.dp_domain.specs.declared.values.Value.{Value}
use Rattle.dp_draws.specs.Taking.{take_draws}
use Rattle.dp_io.specs.Lines.{lines_of, lines_within, has_line_over}
use Rattle.dp_pipeline.specs.declared.content.Content.{Content}
use Rattle.dp_session.specs.Runs.{query_shape, run_shape}
use Rattle.dp_session.specs.SessionLines.{session_slot, line_slots, transcript}
use Rattle.dp_session.specs.Verdicts.{verdict}
use Rattle.dp_runner.specs.declared.stop.Stop.TheVariants as stop
use Rattle.dp_runner.specs.Answering.{answered, session_answering}
use Rattle.dp_runner.specs.Outcome.{Source}

-- the lines of queries, each by its own part of the draws, joined
abbrev pub session_lines : Content → Value → List (List ℕ) → List ℕ → List ℕ
session_lines pipeline root lines draws = concat (replies (line_slots (session_slot pipeline root) [] lines) draws)

-- the source gives the draws of some first queries, and not those of the next: the lines of the first are
-- written, the run stops there, and the source is in the state in which it failed
abbrev pub RunsOutLaw : Type 0
RunsOutLaw = (source : Source) (pipeline : Content) (root : Value) (text line : List ℕ)
    → (before after : List (List ℕ)) (draws mid last : List ℕ)
    → lines_within (2 ^ 20) text ≡ before ++ line ∷ after
    → take_draws source.step source.state (run_shape pipeline root before) ≡ record { draws = Some draws; last = mid }
    → take_draws source.step mid (query_shape (verdict pipeline (reverse before) line))
    ≡ record { draws = None; last = last }
    → answered source (session_answering pipeline root) text
    ≡ record { bytes = session_lines pipeline root before draws; stop = Some stop.DrawFault; last = last }

-- the source gives the draws of all queries before the first line that is over: their lines are written, and
-- the run stops there
abbrev pub LimitLaw : Type 0
LimitLaw = (source : Source) (pipeline : Content) (root : Value) (text draws last : List ℕ)
    → has_line_over (2 ^ 20) text ≡ true
    → take_draws source.step source.state (run_shape pipeline root (lines_within (2 ^ 20) text))
    ≡ record { draws = Some draws; last = last }
    → answered source (session_answering pipeline root) text
    ≡ record {
      bytes = session_lines pipeline root (lines_within (2 ^ 20) text) draws;
      stop = Some stop.QueryLimit;
      last = last;
    }

-- no line is over, and the source gives the draws of all queries: their transcript is written
abbrev pub TranscriptLaw : Type 0
TranscriptLaw = (source : Source) (pipeline : Content) (root : Value) (text draws last : List ℕ)
    → has_line_over (2 ^ 20) text ≡ false
    → take_draws source.step source.state (run_shape pipeline root (lines_of text))
    ≡ record { draws = Some draws; last = last }
    → answered source (session_answering pipeline root) text
    ≡ record { bytes = transcript pipeline root (lines_of text) draws; stop = None; last = last }
