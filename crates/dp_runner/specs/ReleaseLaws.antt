-- Where `post` and `group` do their work: a law a command.
use Rattle.std.specs.Prelude.{◌≡◌, ℕ, List, Result, Some}
use Rattle.dp_draws.specs.Taking.{take_draws}
use Rattle.dp_io.specs.Shelf.{Files}
use Rattle.dp_pipeline.specs.declared.content.Content.{Content}
use Rattle.dp_session.specs.declared.refusal.Refusal.{Refusal}
use Rattle.dp_session.specs.Singles.{Single, post_verdict, group_verdict, single_shape, single_text}
use Rattle.dp_runner.specs.declared.form.Form.TheVariants as form
use Rattle.dp_runner.specs.Forms.{form_of, outcome}
use Rattle.dp_runner.specs.Group.{GroupForm}
use Rattle.dp_runner.specs.Laws.{IsDone, HasData, data_root}
use Rattle.dp_runner.specs.OneRelease.{PlanForm}
use Rattle.dp_runner.specs.Outcome.{Source}
use Rattle.dp_runner.specs.Post.{PostForm}

-- where the files are there and the source gives the draws of the release, its lines are written by these draws, and
-- the source is left in the state after them; a refused release takes none
abbrev pub WritesRelease : List (List ℕ) → PlanForm → (Content → Result Single Refusal) → Type 0
WritesRelease words names verdict = (files : Files) (source : Source) (content : Content)
    → (data_text draws last : List ℕ)
    → HasData names.pipeline_name names.data_name files content data_text
    → take_draws source.step source.state (single_shape (verdict content))
    ≡ record { draws = Some draws; last = last }
    → IsDone (outcome words files source) (single_text (verdict content) (data_root content data_text) draws) last

abbrev pub PostLaw : Type 0
PostLaw = (words : List (List ℕ)) (post : PostForm) → form_of words ≡ Some (form.Post post)
    → WritesRelease words post.names (λ content. post_verdict content post.names.plan post.posts)

abbrev pub GroupLaw : Type 0
GroupLaw = (words : List (List ℕ)) (group : GroupForm) → form_of words ≡ Some (form.Group group)
    → WritesRelease words group.names (λ content. group_verdict content group.names.plan group.column group.texts)
