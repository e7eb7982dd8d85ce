-- The line that is written of each query, and the last line.
use Rattle.std.specs.Prelude.{ℕ, ◌+◌, List, [], ◌∷◌, ◌++◌, length, Result, Ok, Err, codes}
use Rattle.std.specs.Fmt as fmt
use Rattle.dp_law.specs.Mechanism.{Mechanism}
use Rattle.dp_count.specs.Results.{on_ok}
use Rattle.dp_tree.specs.History.{node_of, cost_of}
use Rattle.dp_pipeline.specs.declared.content.Content.{Content}
use Rattle.dp_session.specs.declared.refusal.Refusal.{Refusal}
use Rattle.dp_session.specs.declared.refusal.Refusal.TheVariants as refusal
use Rattle.dp_session.specs.Verdicts.{Grant, Task, Release, Child, root_spent, verdict}

-- the number of a refusal, its word, and what it carries
abbrev pub refusal_text : Refusal → List ℕ
refusal_text refusal.Malformed = codes "1 malformed"
refusal_text refusal.NoNode = codes "2 no-node"
refusal_text (refusal.Frozen ancestor later) =
    codes "3 frozen " ++ (fmt.decimal ancestor ++ (codes " " ++ fmt.decimal later))
refusal_text (refusal.Construction number) = codes "4 construction " ++ fmt.decimal number
refusal_text refusal.Depth = codes "5 depth"
refusal_text (refusal.ChildDistance mapped) = codes "6 child-distance " ++ fmt.decimal mapped
refusal_text (refusal.Budget over) =
    codes "7 budget " ++ (fmt.decimal over.cost ++ (codes " " ++ fmt.decimal over.left))

-- the cost of an accepted query, and what the root has spent after it
abbrev pub cost_text : ℕ → ℕ → List ℕ
cost_text cost spent = codes " cost " ++ (fmt.decimal cost ++ (codes " spent " ++ (fmt.decimal spent ++ codes "\n")))

-- what an accepted query comes to: its node, its cost, and its task
pub record Work : Type 0 where
  pub node : ℕ
  pub cost : ℕ
  pub task : Task

abbrev pub work_of : Grant → Work
work_of grant = record { node = node_of grant.event; cost = cost_of grant.event; task = grant.task }

-- what is written of a task; `answered` is the text of a release at a node
abbrev pub task_text : (ℕ → Mechanism → List ℕ) → ℕ → Task → List ℕ
task_text answered node (Release release) = answered node release
task_text answered node (Child line) = codes "node"

-- what is written of a query after its number
abbrev pub verdict_text : (ℕ → Mechanism → List ℕ) → ℕ → Result Work Refusal → List ℕ
verdict_text answered spent (Ok work) = task_text answered work.node work.task ++ cost_text work.cost spent
verdict_text answered spent (Err refused) = codes "refused " ++ (refusal_text refused ++ codes "\n")

-- the line of a query by its number
abbrev pub numbered : ℕ → List ℕ → List ℕ
numbered number text = fmt.decimal number ++ (codes " " ++ text)

-- the line of a query that comes after others
abbrev pub query_line : (ℕ → Mechanism → List ℕ) → Content → List (List ℕ) → List ℕ → List ℕ
query_line answered pipeline past line =
    numbered (length past + 1)
    (verdict_text answered (root_spent pipeline (line ∷ past)) (on_ok work_of (verdict pipeline past line)))

-- where there are no data, an accepted ask has the number of its draws
abbrev pub admitted_text : ℕ → Mechanism → List ℕ
admitted_text node release = codes "admitted draws " ++ fmt.decimal (length release.shape)

-- the line of a query where there are no data
abbrev pub account_line : Content → List (List ℕ) → List ℕ → List ℕ
account_line = query_line admitted_text

-- the lines of queries, oldest first, that come after others, joined, where there are no data
unfoldable pub account_lines : Content → List (List ℕ) → List (List ℕ) → List ℕ
account_lines pipeline past [] = []
account_lines pipeline past (line ∷ lines) =
    account_line pipeline past line ++ account_lines pipeline (line ∷ past) lines

-- the last line: how many queries there were, and what the root has spent
abbrev pub end_line : ℕ → ℕ → List ℕ
end_line queries spent =
    codes "end " ++ (fmt.decimal queries ++ (codes " spent " ++ (fmt.decimal spent ++ codes "\n")))
