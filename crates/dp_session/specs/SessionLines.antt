-- The lines that a session writes, by the root's value and by draws or their source.
use Rattle.std.specs.Prelude.{ℕ, Bool, true, false, List, [], ◌∷◌, ◌++◌, length, Option, Some, None, codes}
use Rattle.std.specs.List.{concat}
use Rattle.dp_count.specs.Slots.{Slot, replies}
use Rattle.dp_domain.specs.declared.values.Value.{Value}
use Rattle.dp_draws.specs.Taking.{Turn, Taken, take_draws}
use Rattle.dp_law.specs.declared.pieces.Piece.{Piece}
use Rattle.dp_law.specs.Mechanism.{Mechanism}
use Rattle.dp_pipeline.specs.declared.content.Content.{Content}
use Rattle.dp_session.specs.AnswerText.{answer_text}
use Rattle.dp_session.specs.QueryLines.{query_line, account_line, end_line}
use Rattle.dp_session.specs.Runs.{Reply, Answered, value_at, query_shape}
use Rattle.dp_session.specs.Verdicts.{granted, verdict, units}

-- ---- lines by their draws

-- what is written of a release's answer
abbrev pub answered_text : List Piece → List ℕ
answered_text answer = codes "answer " ++ answer_text answer

-- what is written of a release at a node: its answer on the node's value and the draws
abbrev pub released_text : Content → Value → List (List ℕ) → List ℕ → ℕ → Mechanism → List ℕ
released_text pipeline root past draws node release =
    answered_text (release.function (value_at root (granted pipeline past) node) draws)

-- the line of a query that comes after others, by its draws
abbrev pub session_line : Content → Value → List (List ℕ) → List ℕ → List ℕ → List ℕ
session_line pipeline root past line draws = query_line (released_text pipeline root past draws) pipeline past line

-- the bounds of its draws, and that line
abbrev pub session_slot : Content → Value → List (List ℕ) → List ℕ → Slot (List ℕ)
session_slot pipeline root past line = record {
  shape = query_shape (verdict pipeline past line);
  out = session_line pipeline root past line;
}

-- the same where there are no data: no draws are taken
abbrev pub account_slot : Content → List (List ℕ) → List ℕ → Slot (List ℕ)
account_slot pipeline past line = record { shape = []; out = λ draws. account_line pipeline past line }

-- of each of some lines, oldest first, that come after others
unfoldable pub line_slots : (List (List ℕ) → List ℕ → Slot (List ℕ)) → List (List ℕ) → List (List ℕ)
    → List (Slot (List ℕ))
line_slots slot past [] = []
line_slots slot past (line ∷ lines) = slot past line ∷ line_slots slot (line ∷ past) lines

-- all lines of queries, each by its own part of the draws, and the last line
abbrev pub transcript : Content → Value → List (List ℕ) → List ℕ → List ℕ
transcript pipeline root lines draws =
    concat (replies (line_slots (session_slot pipeline root) [] lines) draws)
    ++ end_line (length lines) (units pipeline lines)

-- ---- lines by their replies

-- what is written of the reply to a release
abbrev pub replied_text : Reply → List ℕ
replied_text (Answered answer) = answered_text answer
replied_text _ = []

-- the line of a query that comes after others, by its reply
abbrev pub reply_line : Content → List (List ℕ) → List ℕ → Reply → List ℕ
reply_line pipeline past line reply = query_line (λ node release. replied_text reply) pipeline past line

-- of each of some lines, oldest first, that come after others
unfoldable pub reply_lines : Content → List (List ℕ) → List (List ℕ) → List Reply → List (List ℕ)
reply_lines pipeline past (line ∷ lines) (reply ∷ wanted) =
    reply_line pipeline past line reply ∷ reply_lines pipeline (line ∷ past) lines wanted
reply_lines pipeline past _ _ = []

-- ---- lines from a source of draws

-- what lines come to on a source of draws: the bytes that are written, whether the source gave all draws, and its last
-- state
pub record Ran : Type 0 where
  pub bytes : List ℕ
  pub enough : Bool
  pub last : List ℕ

-- bytes, and then what comes
abbrev pub preceded : List ℕ → Ran → Ran
preceded bytes ran = record { bytes = bytes ++ ran.bytes; enough = ran.enough; last = ran.last }

-- a line by its draws and then what comes, or an end where the source failed
abbrev pub after_draws : Option (List ℕ) → List ℕ → (List ℕ → List ℕ) → (List ℕ → Ran) → Ran
after_draws None last text rest = record { bytes = []; enough = false; last = last }
after_draws (Some draws) last text rest = preceded (text draws) (rest last)

abbrev pub after_taken : Taken → (List ℕ → List ℕ) → (List ℕ → Ran) → Ran
after_taken taken text rest = after_draws taken.draws taken.last text rest

-- lines from a source in a state: the draws of a line are taken before it is written, and where the source fails
-- nothing more is written
unfoldable pub run_slots : (List ℕ → ℕ → Turn) → List (Slot (List ℕ)) → List ℕ → Ran
run_slots step [] state = record { bytes = []; enough = true; last = state }
run_slots step (slot ∷ slots) state =
    after_taken (take_draws step state slot.shape) slot.out (run_slots step slots)
