-- One release of a pipeline, which begins a budget of its own: the release of a plan, with its answer changed after, or
-- on the groups of the texts of a column.
use Rattle.std.specs.Prelude.{ℕ, List, [], ◌++◌, Option, Some, None, Result, Ok, Err, codes}
use Rattle.dp_budget.specs.Rules as rules
use Rattle.dp_count.specs.Results.{◌>>=◌, on_ok}
use Rattle.dp_count.specs.Slots.{Slot}
use Rattle.dp_domain.specs.declared.values.Value.{Value}
use Rattle.dp_law.specs.declared.pieces.Piece.{Piece}
use Rattle.dp_law.specs.Mechanism.{Mechanism}
use Rattle.dp_chain.specs.Releases.{release_on, cost_of}
use Rattle.dp_group.specs.Grouped.{grouped_on}
use Rattle.dp_post.specs.declared.post.Post.{Post}
use Rattle.dp_post.specs.Posted.{changed_by}
use Rattle.dp_post.specs.Posts.{posted}
use Rattle.dp_pipeline.specs.declared.content.Content.{Content}
use Rattle.dp_pipeline.specs.Accepted.{part_refused, cost_refused, root_domain, root_metric, ratio_of}
use Rattle.dp_pipeline.specs.Queries.{plan_named}
use Rattle.dp_pipeline.specs.StageForms.{place_of}
use Rattle.dp_session.specs.declared.refusal.Refusal.{Refusal}
use Rattle.dp_session.specs.declared.refusal.Refusal.TheVariants as refusal
use Rattle.dp_session.specs.QueryLines.{refusal_text, cost_text, numbered, end_line}
use Rattle.dp_session.specs.SessionLines.{answered_text}
use Rattle.dp_session.specs.Verdicts.{made_or, unless}

-- ---- verdicts

-- an accepted release, and what it costs
pub record Single : Type 0 where
  pub measurement : Mechanism
  pub cost : ℕ

-- what a name stands for, or the refusal of one that stands for nothing
abbrev pub named_or : {A : Type 0} → Option A → Result A Refusal
named_or None = Err refusal.Malformed
named_or (Some x) = Ok x

-- the release of a plan on a pipeline's records
unfoldable pub plan_release : Content → List ℕ → Result Mechanism Refusal
plan_release pipeline plan = do
  spec ← named_or (plan_named pipeline.plans plan)
  made_or part_refused (release_on (ratio_of pipeline) spec.parts (root_domain pipeline) (root_metric pipeline))

-- a measurement has a cost at the pipeline's distance, and a budget of the root of which nothing is spent admits it
unfoldable pub admitted_on : Content → Mechanism → Result Single Refusal
admitted_on pipeline measurement = do
  cost ← made_or cost_refused (cost_of measurement pipeline.distance)
  admitted ← unless refusal.Budget (rules.refusal (rules.fresh pipeline.root) cost)
  Ok (record { measurement = measurement; cost = cost })

-- the release of a plan: there is such a plan, and its release is admitted
unfoldable pub plan_verdict : Content → List ℕ → Result Single Refusal
plan_verdict pipeline plan = do
  release ← plan_release pipeline plan
  admitted_on pipeline release

-- the release whose answer is changed after it is given
abbrev pub changed_after : List Post → Single → Single
changed_after posts single =
    record { measurement = changed_by (posted posts) single.measurement; cost = single.cost }

abbrev pub post_verdict : Content → List ℕ → List Post → Result Single Refusal
post_verdict pipeline plan posts = on_ok (changed_after posts) (plan_verdict pipeline plan)

-- the release of a plan on the group of each text in a column: there are such a column and such a plan; the groups are
-- made, which a column of persons and equal texts refuse; and the release on the groups is admitted
unfoldable pub group_verdict : Content → List ℕ → List ℕ → List (List ℕ) → Result Single Refusal
group_verdict pipeline plan column texts = do
  place ← named_or (place_of pipeline.columns column)
  release ← plan_release pipeline plan
  groups ← made_or part_refused (grouped_on place texts release)
  admitted_on pipeline groups

-- ---- what is written

-- the line of an answer, by its cost, and the last line
abbrev pub answer_lines : List Piece → ℕ → List ℕ
answer_lines answer cost = numbered 1 (answered_text answer ++ cost_text cost cost) ++ end_line 1 cost

-- the line of a refusal, and the last line
abbrev pub refusal_lines : Refusal → List ℕ
refusal_lines refused = numbered 1 (codes "refused " ++ (refusal_text refused ++ codes "\n")) ++ end_line 1 0

-- those of the answer on a value and draws, or of the refusal
abbrev pub single_text : Result Single Refusal → Value → List ℕ → List ℕ
single_text (Ok single) v draws = answer_lines (single.measurement.function v draws) single.cost
single_text (Err refused) v draws = refusal_lines refused

-- the bounds of its draws: a refusal takes none
abbrev pub single_shape : Result Single Refusal → List ℕ
single_shape (Ok single) = single.measurement.shape
single_shape (Err refused) = []

-- both
abbrev pub single_slot : Result Single Refusal → Value → Slot (List ℕ)
single_slot verdict v = record { shape = single_shape verdict; out = single_text verdict v }
