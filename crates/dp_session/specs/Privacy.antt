-- When a pipeline is private: on data texts within its distance, every list of replies to every list of queries is
-- given by numbers of draw lists that keep the ratio at the units spent.
use Rattle.std.specs.Prelude.{ℕ, ◌^◌, ◌≤◌, ◌≡◌, List, length, Some, Ok, Decides}
use Rattle.dp_count.specs.Ratios.{KeepsRatio}
use Rattle.dp_domain.specs.declared.values.Value.TheVariants as value
use Rattle.dp_domain.specs.Domains.{Has}
use Rattle.dp_domain.specs.Metrics.{Within}
use Rattle.dp_domain.specs.Users.{distance}
use Rattle.dp_pipeline.specs.declared.content.Content.{Content}
use Rattle.dp_pipeline.specs.Accepted.{accepted, root_domain}
use Rattle.dp_records.specs.Records.{records}
use Rattle.dp_tree.specs.History.{Node, node_at, Accepted}
use Rattle.dp_tree.specs.Losses.{DeclaresAll}
use Rattle.dp_session.specs.Runs.{Reply, same_reply, value_at, run_ways}
use Rattle.dp_session.specs.Verdicts.{root_seat, granted, past_events, units}

-- the records of a data text under a pipeline
abbrev pub text_records : Content → List ℕ → List (List (List ℕ))
text_records pipeline text = records (length pipeline.columns) pipeline.header text

-- how far two data texts are from each other: in persons where the pipeline names their column, else in records
abbrev pub texts_apart : Content → List ℕ → List ℕ → ℕ
texts_apart pipeline x y = distance pipeline.user (text_records pipeline x) (text_records pipeline y)

-- for all data texts within the pipeline's distance, all lists of lines and all lists of replies
abbrev pub IsPrivatePipeline : Content → Type 0
IsPrivatePipeline pipeline = (x y : List ℕ) → length x ≤ 2 ^ 30 → length y ≤ 2 ^ 30
    → texts_apart pipeline x y ≤ pipeline.distance
    → (lines : List (List ℕ)) (wanted : List Reply)
    → KeepsRatio pipeline.p pipeline.q (units pipeline lines)
    (run_ways pipeline (value.Rows (text_records pipeline x)) lines wanted)
    (run_ways pipeline (value.Rows (text_records pipeline y)) lines wanted)

-- the same of values of the root that are within the pipeline's distance
abbrev pub IsPrivateOnRecords : Content → Type 0
IsPrivateOnRecords pipeline = (xs ys : List (List (List ℕ)))
    → Has (root_domain pipeline) (value.Rows xs) → Has (root_domain pipeline) (value.Rows ys)
    → distance pipeline.user xs ys ≤ pipeline.distance
    → (lines : List (List ℕ)) (wanted : List Reply)
    → KeepsRatio pipeline.p pipeline.q (units pipeline lines)
    (run_ways pipeline (value.Rows xs) lines wanted) (run_ways pipeline (value.Rows ys) lines wanted)

-- every accepted pipeline is private
abbrev pub PrivacyLaw : Type 0
PrivacyLaw = (bytes : List ℕ) (pipeline : Content) → accepted bytes ≡ Ok pipeline → IsPrivatePipeline pipeline

-- every accepted pipeline is private on records
abbrev pub RecordsPrivacyLaw : Type 0
RecordsPrivacyLaw = (bytes : List ℕ) (pipeline : Content) → accepted bytes ≡ Ok pipeline → IsPrivateOnRecords pipeline

-- the test of equality of replies tells equal ones from different ones
abbrev pub SameReplyLaw : Type 0
SameReplyLaw = (one other : Reply) → Decides (same_reply one other) (one ≡ other)

-- the accepted queries of any lines were admitted one after the other, and none opened a child with an odometer
abbrev pub HistoryLaw : Type 0
HistoryLaw = (pipeline : Content) (past : List (List ℕ))
    → Accepted (root_seat pipeline) (past_events pipeline past) × DeclaresAll (past_events pipeline past)

-- of an accepted pipeline, on records within its distance, the two values of each node are within the node's distance
abbrev pub NodeValuesLaw : Type 0
NodeValuesLaw = (bytes : List ℕ) (pipeline : Content) → accepted bytes ≡ Ok pipeline
    → (xs ys : List (List (List ℕ)))
    → Has (root_domain pipeline) (value.Rows xs) → Has (root_domain pipeline) (value.Rows ys)
    → distance pipeline.user xs ys ≤ pipeline.distance
    → (past : List (List ℕ)) (i : ℕ) (node : Node)
    → node_at (root_seat pipeline) (past_events pipeline past) i ≡ Some node
    → Within node.seat.metric node.seat.distance
    (value_at (value.Rows xs) (granted pipeline past) i) (value_at (value.Rows ys) (granted pipeline past) i)

-- the same on data texts
abbrev pub TextValuesLaw : Type 0
TextValuesLaw = (bytes : List ℕ) (pipeline : Content) → accepted bytes ≡ Ok pipeline
    → (x y : List ℕ) → texts_apart pipeline x y ≤ pipeline.distance
    → (past : List (List ℕ)) (i : ℕ) (node : Node)
    → node_at (root_seat pipeline) (past_events pipeline past) i ≡ Some node
    → Within node.seat.metric node.seat.distance
    (value_at (value.Rows (text_records pipeline x)) (granted pipeline past) i)
    (value_at (value.Rows (text_records pipeline y)) (granted pipeline past) i)
