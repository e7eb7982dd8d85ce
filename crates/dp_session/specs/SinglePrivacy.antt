-- That one release is private, on data texts within the pipeline's distance and at its cost.
use Rattle.std.specs.Prelude.{ℕ, ◌^◌, ◌≤◌, ◌≡◌, ◌⊎◌, List, length, None, Ok, Err}
use Rattle.dp_count.specs.Ratios.{KeepsRatio}
use Rattle.dp_domain.specs.declared.values.Value.TheVariants as value
use Rattle.dp_law.specs.declared.pieces.Piece.{Piece}
use Rattle.dp_law.specs.Mechanism.{ways}
use Rattle.dp_post.specs.declared.post.Post.{Post}
use Rattle.dp_pipeline.specs.declared.content.Content.{Content}
use Rattle.dp_pipeline.specs.Accepted.{accepted}
use Rattle.dp_pipeline.specs.Queries.{plan_named}
use Rattle.dp_session.specs.declared.refusal.Refusal.{Refusal}
use Rattle.dp_session.specs.declared.refusal.Refusal.TheVariants as refusal
use Rattle.dp_session.specs.Privacy.{text_records, texts_apart}
use Rattle.dp_session.specs.Singles.{Single, plan_verdict, post_verdict, group_verdict}

-- on all data texts within the pipeline's distance the numbers of draw lists that give an answer keep the ratio at the
-- release's cost
abbrev pub IsPrivateSingle : Content → Single → Type 0
IsPrivateSingle pipeline single = (x y : List ℕ) → length x ≤ 2 ^ 30 → length y ≤ 2 ^ 30
    → texts_apart pipeline x y ≤ pipeline.distance
    → (answer : List Piece)
    → KeepsRatio pipeline.p pipeline.q single.cost
    (ways single.measurement (value.Rows (text_records pipeline x)) answer)
    (ways single.measurement (value.Rows (text_records pipeline y)) answer)

-- of an accepted pipeline, each accepted release whose answer is changed after
abbrev pub PostPrivacyLaw : Type 0
PostPrivacyLaw = (bytes : List ℕ) (pipeline : Content) → accepted bytes ≡ Ok pipeline
    → (plan : List ℕ) (posts : List Post) (single : Single)
    → post_verdict pipeline plan posts ≡ Ok single → IsPrivateSingle pipeline single

-- .. and each accepted release on the groups of a column
abbrev pub GroupPrivacyLaw : Type 0
GroupPrivacyLaw = (bytes : List ℕ) (pipeline : Content) → accepted bytes ≡ Ok pipeline
    → (plan column : List ℕ) (texts : List (List ℕ)) (single : Single)
    → group_verdict pipeline plan column texts ≡ Ok single → IsPrivateSingle pipeline single

-- a plan of an accepted pipeline is refused for its cost alone, and a name that is none is malformed
abbrev pub IsBudget : Refusal → Type 0
IsBudget (refusal.Budget over) = Unit {0}
IsBudget _ = ⊥

abbrev pub PlanRefusalLaw : Type 0
PlanRefusalLaw = (bytes : List ℕ) (pipeline : Content) → accepted bytes ≡ Ok pipeline
    → (plan : List ℕ) (refused : Refusal) → plan_verdict pipeline plan ≡ Err refused
    → ((plan_named pipeline.plans plan ≡ None) × (refused ≡ refusal.Malformed))
    ⊎ IsBudget refused
