-- That what a session writes tells no more than its replies.
use Rattle.std.specs.Prelude.{◌≡◌, ℕ, List, []}
use Rattle.dp_count.specs.Slots.{joined_shape, replies}
use Rattle.dp_domain.specs.declared.values.Value.{Value}
use Rattle.dp_pipeline.specs.declared.content.Content.{Content}
use Rattle.dp_session.specs.Runs.{run_shape, run_replies}
use Rattle.dp_session.specs.SessionLines.{session_slot, line_slots, reply_lines}

-- the lines of a run are those of its replies, which are made of the same draws
abbrev pub TranscriptLaw : Type 0
TranscriptLaw = (pipeline : Content) (root : Value) (lines : List (List ℕ)) (draws : List ℕ)
    → replies (line_slots (session_slot pipeline root) [] lines) draws
    ≡ reply_lines pipeline [] lines (run_replies pipeline root lines draws)

-- the bounds of the draws of a session's lines are those of the run
abbrev pub SessionShapeLaw : Type 0
SessionShapeLaw = (pipeline : Content) (root : Value) (lines : List (List ℕ))
    → joined_shape (line_slots (session_slot pipeline root) [] lines) ≡ run_shape pipeline root lines
