-- The lines of a session by its draws are those by its replies.
use Rattle.std.proofs.Common.{◌≡◌, ℕ, ◌+◌, ◌++◌, Result, Ok, Err, List, [], ◌∷◌, length, drop, take, refl, ap, ap₂}
use Rattle.dp_count.specs.Results.{on_ok}
use Rattle.dp_count.specs.Slots.{joined_shape, replies}
use Rattle.dp_domain.specs.declared.values.Value.{Value}
use Rattle.dp_law.specs.Mechanism.{Mechanism}
use Rattle.dp_pipeline.specs.declared.content.Content.{Content}
use Rattle.dp_tree.specs.History.{node_of, cost_of}
use Rattle.dp_session.specs.declared.refusal.Refusal.{Refusal}
use Rattle.dp_session.specs.QueryLines.{cost_text, numbered, task_text, verdict_text, work_of}
use Rattle.dp_session.specs.Runs.{value_at, query_shape, query_reply, task_reply, query_slots}
use Rattle.dp_session.specs.SessionLines.{answered_text, replied_text, session_slot, session_line, line_slots, reply_line, reply_lines}
use Rattle.dp_session.specs.Transcripts.{TranscriptLaw, SessionShapeLaw}
use Rattle.dp_session.specs.Verdicts.{Grant, Task, Release, Child, granted, verdict, root_spent}

-- what is written of a release, by the values of the nodes
abbrev values-text : (ℕ → Value) → List ℕ → ℕ → Mechanism → List ℕ
values-text values draws node release = answered_text (release.function (values node) draws)

task-text : (values : ℕ → Value) (draws : List ℕ) (node : ℕ) (task : Task)
    → task_text (values-text values draws) node task
    ≡ task_text (λ i release. replied_text (task_reply task (values node) draws)) node task
task-text values draws node (Release release) = refl
task-text values draws node (Child line) = refl

text-of : (values : ℕ → Value) (draws : List ℕ) (spent : ℕ) (v : Result Grant Refusal)
    → verdict_text (values-text values draws) spent (on_ok work_of v)
    ≡ verdict_text (λ i release. replied_text (query_reply v values draws)) spent (on_ok work_of v)
text-of values draws spent (Ok grant) =
    ap (λ text. text ++ cost_text (cost_of grant.event) spent) (task-text values draws (node_of grant.event) grant.task)
text-of values draws spent (Err refused) = refl

line-of : (pipeline : Content) (root : Value) (past : List (List ℕ)) (line draws : List ℕ)
    → session_line pipeline root past line draws
    ≡ reply_line pipeline past line (query_reply (verdict pipeline past line) (value_at root (granted pipeline past)) draws)
line-of pipeline root past line draws =
    ap (numbered (length past + 1))
    (text-of (value_at root (granted pipeline past)) draws (root_spent pipeline (line ∷ past)) (verdict pipeline past line))

lines-of : (pipeline : Content) (root : Value) (past lines : List (List ℕ)) (draws : List ℕ)
    → replies (line_slots (session_slot pipeline root) past lines) draws
    ≡ reply_lines pipeline past lines (replies (query_slots pipeline root past lines) draws)
unfolding replies line_slots query_slots reply_lines
lines-of pipeline root past [] draws = refl
lines-of pipeline root past (line ∷ lines) draws =
    let shape = query_shape (verdict pipeline past line) in
    ap₂ (λ a b. a ∷ b) (line-of pipeline root past line (take (length shape) draws))
    (lines-of pipeline root (line ∷ past) lines (drop (length shape) draws))

shapes-of : (pipeline : Content) (root : Value) (past lines : List (List ℕ))
    → joined_shape (line_slots (session_slot pipeline root) past lines)
    ≡ joined_shape (query_slots pipeline root past lines)
unfolding joined_shape line_slots query_slots
shapes-of pipeline root past [] = refl
shapes-of pipeline root past (line ∷ lines) =
    ap (λ rest. query_shape (verdict pipeline past line) ++ rest) (shapes-of pipeline root (line ∷ past) lines)

pub transcript-law : TranscriptLaw
transcript-law pipeline root lines draws = lines-of pipeline root [] lines draws

pub session-shape : SessionShapeLaw
session-shape pipeline root lines = shapes-of pipeline root [] lines
