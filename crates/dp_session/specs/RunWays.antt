-- How many draw lists of a run give a list of replies: the product of the ways of its releases.
use Rattle.std.specs.Prelude.{◌≡◌, ℕ, ◌*◌, List, [], ◌∷◌, Result, Ok, Err, if◌then◌else◌}
use Rattle.dp_domain.specs.declared.values.Value.{Value}
use Rattle.dp_law.specs.Mechanism.{ways}
use Rattle.dp_tree.specs.History.{node_of}
use Rattle.dp_pipeline.specs.declared.content.Content.{Content}
use Rattle.dp_session.specs.declared.refusal.Refusal.{Refusal}
use Rattle.dp_session.specs.Runs.{Reply, Refused, Opened, Answered, same_reply, value_at, run_ways}
use Rattle.dp_session.specs.Verdicts.{Grant, Task, Release, Child, granted, verdict}

-- of an accepted query, by the value of its node: an answer to a release has the release's ways, and no other reply to
-- it any; a child has the one reply that it was opened
abbrev pub task_ways : Task → Value → Reply → ℕ
task_ways (Release release) value (Answered answer) = ways release value answer
task_ways (Release release) value _ = 0
task_ways (Child line) value reply = if same_reply Opened reply then 1 else 0

-- of a query, by the values of the nodes: a refused one has the one reply that is its refusal
abbrev pub query_ways : Result Grant Refusal → (ℕ → Value) → Reply → ℕ
query_ways (Ok grant) values reply = task_ways grant.task (values (node_of grant.event)) reply
query_ways (Err refused) values reply = if same_reply (Refused refused) reply then 1 else 0

-- the product over some lines, oldest first, after others; 0 where there are not as many replies as lines
unfoldable pub ways_product : Content → Value → List (List ℕ) → List (List ℕ) → List Reply → ℕ
ways_product pipeline root past [] [] = 1
ways_product pipeline root past [] (reply ∷ wanted) = 0
ways_product pipeline root past (line ∷ lines) [] = 0
ways_product pipeline root past (line ∷ lines) (reply ∷ wanted) =
    query_ways (verdict pipeline past line) (value_at root (granted pipeline past)) reply
    * ways_product pipeline root (line ∷ past) lines wanted

-- the number of draw lists of a run that give a list of replies is that product
abbrev pub RunWaysLaw : Type 0
RunWaysLaw = (pipeline : Content) (root : Value) (lines : List (List ℕ)) (wanted : List Reply)
    → run_ways pipeline root lines wanted ≡ ways_product pipeline root [] lines wanted
