-- What is written of a pipeline: a line for its root, its budget, each stage and each noise of its plans.
use Rattle.std.specs.Prelude.{ℕ, ◌+◌, Bool, true, false, List, [], ◌∷◌, ◌++◌, length, Option, Some, None, Result, Ok, Err, codes}
use Rattle.std.specs.Fmt as fmt
use Rattle.std.specs.List.{concat}
use Rattle.dp_num.specs.Limits.{Fraction}
use Rattle.dp_budget.specs.declared.budget.Rule.{Rule}
use Rattle.dp_budget.specs.declared.budget.Rule.TheVariants as rule
use Rattle.dp_domain.specs.declared.domains.Domain.{Domain}
use Rattle.dp_domain.specs.declared.domains.Domain.TheVariants as domain
use Rattle.dp_domain.specs.declared.metrics.Metric.{Metric}
use Rattle.dp_domain.specs.declared.metrics.Metric.TheVariants as metrics
use Rattle.dp_law.specs.declared.refusals.Refused.{Refused}
use Rattle.dp_law.specs.Mechanism.{Mechanism}
use Rattle.dp_chain.specs.declared.stage.Stage.{Stage}
use Rattle.dp_chain.specs.declared.noise.Noise.{Noise}
use Rattle.dp_chain.specs.declared.noise.Part.{Part}
use Rattle.dp_chain.specs.Stages.{noise_on}
use Rattle.dp_chain.specs.Releases.{release_on}
use Rattle.dp_pipeline.specs.declared.content.Content.{Content}
use Rattle.dp_pipeline.specs.declared.content.Siblings.{Siblings}
use Rattle.dp_pipeline.specs.declared.content.Siblings.TheVariants as siblings
use Rattle.dp_pipeline.specs.declared.plan.Plan.{Plan}
use Rattle.dp_pipeline.specs.Accepted.{ratio_of, root_place}
use Rattle.dp_pipeline.specs.Places.{PlaceValue, after_stage}
use Rattle.dp_pipeline.specs.StageForms.{stage_word, noise_word}

-- ---- domains and metrics

abbrev pub size_text : Option ℕ → List ℕ
size_text None = []
size_text (Some n) = codes " size " ++ fmt.decimal n

unfoldable pub domain_text : Domain → List ℕ
domain_text (domain.Rows columns) = codes "rows " ++ fmt.decimal columns
domain_text domain.Texts = codes "texts"
domain_text (domain.OptInts lo hi) = codes "optints " ++ (fmt.signed_decimal lo ++ (codes " " ++ fmt.signed_decimal hi))
domain_text (domain.Ints lo hi size) =
    codes "ints " ++ (fmt.signed_decimal lo ++ (codes " " ++ (fmt.signed_decimal hi ++ size_text size)))
domain_text (domain.Cats n size) = codes "cats " ++ (fmt.decimal n ++ size_text size)
domain_text (domain.Int lo hi) = codes "int " ++ (fmt.signed_decimal lo ++ (codes " " ++ fmt.signed_decimal hi))
domain_text (domain.Cat n) = codes "cat " ++ fmt.decimal n
domain_text (domain.IntVec len lo hi) =
    codes "intvec "
    ++ (fmt.decimal len ++ (codes " " ++ (fmt.signed_decimal lo ++ (codes " " ++ fmt.signed_decimal hi))))

unfoldable pub metric_text : Metric → List ℕ
metric_text metrics.Symmetric = codes "symmetric"
metric_text (metrics.Users column) = codes "users " ++ fmt.decimal column
metric_text metrics.ChangeOne = codes "change-one"
metric_text metrics.Absolute = codes "absolute"
metric_text metrics.Discrete = codes "discrete"
metric_text metrics.L1 = codes "l1"

-- a word, and then a domain, a metric and a distance: one line
abbrev pub place_line : List ℕ → PlaceValue → List ℕ
place_line word at =
    word ++ (codes " " ++ (domain_text at.domain ++ (codes " " ++ (metric_text at.metric
    ++ (codes " " ++ (fmt.decimal at.distance ++ codes "\n"))))))

-- a word, and then how many draws and which loss
abbrev pub loss_line : List ℕ → ℕ → ℕ → List ℕ
loss_line word draws loss =
    word ++ (codes " draws " ++ (fmt.decimal draws ++ (codes " loss " ++ (fmt.decimal loss ++ codes "\n"))))

-- ---- parts

-- the line of a measurement at a distance, where it is made and has a loss
abbrev pub lines_at : List ℕ → ℕ → Option ℕ → List (List ℕ)
lines_at word draws None = []
lines_at word draws (Some loss) = loss_line word draws loss ∷ []

abbrev pub measured_lines : List ℕ → ℕ → Result Mechanism Refused → List (List ℕ)
measured_lines word distance (Ok m) = lines_at word (length m.shape) (m.privacy_map distance)
measured_lines word distance (Err refusal) = []

unfoldable pub noise_lines : Fraction → Noise → PlaceValue → List (List ℕ)
noise_lines ratio noise at = measured_lines (noise_word noise) at.distance (noise_on ratio noise at.domain at.metric)

-- what follows a stage, if it is made
abbrev pub on_place : Option PlaceValue → (PlaceValue → List (List ℕ)) → List (List ℕ)
on_place None next = []
on_place (Some at) next = next at

-- the stages of a part, each on what the one before gives, and then its noise
unfoldable pub part_lines : Fraction → Noise → List Stage → PlaceValue → List (List ℕ)
part_lines ratio noise [] at = noise_lines ratio noise at
part_lines ratio noise (stage ∷ stages) at =
    on_place (after_stage stage at) (λ next. place_line (stage_word stage) next ∷ part_lines ratio noise stages next)

-- the parts of an `all`, numbered
unfoldable pub numbered_lines : Fraction → ℕ → List Part → PlaceValue → List (List ℕ)
numbered_lines ratio number [] at = []
numbered_lines ratio number (part ∷ parts) at =
    (codes "part " ++ (fmt.decimal number ++ codes "\n"))
    ∷ (part_lines ratio part.noise part.stages at ++ numbered_lines ratio (number + 1) parts at)

-- the parts of a release that was not written as an `all`: there is one
unfoldable pub plain_lines : Fraction → List Part → PlaceValue → List (List ℕ)
plain_lines ratio [] at = []
plain_lines ratio (part ∷ parts) at = part_lines ratio part.noise part.stages at ++ plain_lines ratio parts at

-- all parts of a release together
unfoldable pub all_lines : Fraction → List Part → PlaceValue → List (List ℕ)
all_lines ratio parts at = measured_lines (codes "all") at.distance (release_on ratio parts at.domain at.metric)

-- the parts of a release, and where it was written as an `all` also all together
abbrev pub lines_of : Fraction → List Part → PlaceValue → Bool → List (List ℕ)
lines_of ratio parts at false = plain_lines ratio parts at
lines_of ratio parts at true = numbered_lines ratio 1 parts at ++ all_lines ratio parts at

-- ---- pipelines

abbrev pub plan_line : List ℕ → List ℕ
plan_line name = codes "plan " ++ (name ++ codes "\n")

unfoldable pub plans_lines : Fraction → PlaceValue → List Plan → List (List ℕ)
plans_lines ratio at [] = []
plans_lines ratio at (plan ∷ plans) =
    plan_line plan.name ∷ (lines_of ratio plan.spec.parts at plan.spec.is_all ++ plans_lines ratio at plans)

-- each mid after a space
unfoldable pub mids_text : List ℕ → List ℕ
mids_text [] = codes "\n"
mids_text (mid ∷ mids) = codes " " ++ (fmt.decimal mid ++ mids_text mids)

abbrev pub budget_line : Rule → List ℕ
budget_line (rule.Compositor mids) = codes "budget compositor" ++ mids_text mids
budget_line (rule.Filter limit) = codes "budget filter " ++ (fmt.decimal limit ++ codes "\n")
budget_line rule.Odometer = codes "budget odometer\n"

-- the word of what is said of siblings
abbrev pub siblings_word : Siblings → List ℕ
siblings_word siblings.Open = codes "open"
siblings_word siblings.Frozen = codes "frozen"

-- what version 2 says of siblings
abbrev pub siblings_lines : Option Siblings → List (List ℕ)
siblings_lines None = []
siblings_lines (Some kept) = (codes "siblings " ++ (siblings_word kept ++ codes "\n")) ∷ []

abbrev pub check_lines : Content → List (List ℕ)
check_lines content =
    place_line (codes "root") (root_place content) ∷ budget_line content.root
    ∷ (siblings_lines content.siblings ++ (plans_lines (ratio_of content) (root_place content) content.plans
    ++ codes "accepted\n" ∷ []))

-- the whole text
unfoldable pub check_text : Content → List ℕ
check_text content = concat (check_lines content)
