-- What a run of queries replies to its draws, and how many draw lists give the same replies.
use Rattle.std.specs.Prelude.{ℕ, ◌==◌, ◌&&◌, Bool, false, true, List, [], ◌∷◌, Result, Ok, Err, if◌then◌else◌, nat_eq}
use Rattle.std.specs.Cmp.Lexicographic.{pointwise}
use Rattle.dp_count.specs.DrawLists.{count}
use Rattle.dp_count.specs.Slots.{Slot, joined_shape, replies}
use Rattle.dp_domain.specs.declared.values.Value.{Value}
use Rattle.dp_law.specs.declared.pieces.Piece.{Piece}
use Rattle.dp_law.specs.AnswerEquality.{same_answer}
use Rattle.dp_tree.specs.History.{Event, number_of, node_of}
use Rattle.dp_pipeline.specs.declared.content.Content.{Content}
use Rattle.dp_session.specs.declared.refusal.Refusal.{Refusal}
use Rattle.dp_session.specs.declared.refusal.Refusal.TheVariants as refusal
use Rattle.dp_session.specs.Verdicts.{Grant, Task, Release, Child, granted, verdict}

-- ---- values

-- the value of node i after an accepted query, by the values before it: a child's is what its line gives of its
-- parent's
abbrev pub value_after : Task → Event → (ℕ → Value) → ℕ → Value
value_after (Release release) event before i = before i
value_after (Child line) event before i =
    if number_of event == i then line.function (before (node_of event)) else before i

-- the value of node i, where the root's is given
unfoldable pub value_at : Value → List Grant → ℕ → Value
value_at root [] i = root
value_at root (grant ∷ past) i = value_after grant.task grant.event (λ j. value_at root past j) i

-- ---- replies

-- what a query is answered: its refusal with all that it carries, that a child was opened, or a release's answer
pub data Reply : Type 0 where
  Refused : Refusal → Reply
  Opened : Reply
  Answered : List Piece → Reply

-- the bounds of the draws of a query: those of its release, and none where there is none
abbrev pub task_shape : Task → List ℕ
task_shape (Release release) = release.shape
task_shape (Child line) = []

abbrev pub query_shape : Result Grant Refusal → List ℕ
query_shape (Ok grant) = task_shape grant.task
query_shape (Err refused) = []

-- the reply of a query to its draws, by the values of the nodes
abbrev pub task_reply : Task → Value → List ℕ → Reply
task_reply (Release release) value draws = Answered (release.function value draws)
task_reply (Child line) value draws = Opened

abbrev pub query_reply : Result Grant Refusal → (ℕ → Value) → List ℕ → Reply
query_reply (Ok grant) values draws = task_reply grant.task (values (node_of grant.event)) draws
query_reply (Err refused) values draws = Refused refused

-- a query that comes after others, by the root's value
abbrev pub query_slot : Content → Value → List (List ℕ) → List ℕ → Slot Reply
query_slot pipeline root past line = record {
  shape = query_shape (verdict pipeline past line);
  out = query_reply (verdict pipeline past line) (value_at root (granted pipeline past));
}

-- the lines of queries, oldest first, after others, newest first
unfoldable pub query_slots : Content → Value → List (List ℕ) → List (List ℕ) → List (Slot Reply)
query_slots pipeline root past [] = []
query_slots pipeline root past (line ∷ lines) =
    query_slot pipeline root past line ∷ query_slots pipeline root (line ∷ past) lines

-- the bounds of all draws of a run, in order
abbrev pub run_shape : Content → Value → List (List ℕ) → List ℕ
run_shape pipeline root lines = joined_shape (query_slots pipeline root [] lines)

-- the replies of a run, each query's to its own part of the draws
abbrev pub run_replies : Content → Value → List (List ℕ) → List ℕ → List Reply
run_replies pipeline root lines draws = replies (query_slots pipeline root [] lines) draws

-- ---- numbers of draw lists

abbrev pub same_refusal : Refusal → Refusal → Bool
same_refusal refusal.Malformed refusal.Malformed = true
same_refusal refusal.NoNode refusal.NoNode = true
same_refusal (refusal.Frozen a b) (refusal.Frozen c d) = nat_eq a c && nat_eq b d
same_refusal (refusal.Construction a) (refusal.Construction b) = nat_eq a b
same_refusal refusal.Depth refusal.Depth = true
same_refusal (refusal.ChildDistance a) (refusal.ChildDistance b) = nat_eq a b
same_refusal (refusal.Budget a) (refusal.Budget b) = nat_eq a.cost b.cost && nat_eq a.left b.left
same_refusal _ _ = false

abbrev pub same_reply : Reply → Reply → Bool
same_reply (Refused a) (Refused b) = same_refusal a b
same_reply Opened Opened = true
same_reply (Answered a) (Answered b) = same_answer a b
same_reply _ _ = false

-- how many draw lists of a run give these replies to its lines
unfoldable pub run_ways : Content → Value → List (List ℕ) → List Reply → ℕ
run_ways pipeline root lines wanted =
    count (run_shape pipeline root lines) (λ draws. pointwise same_reply (run_replies pipeline root lines draws) wanted)
