-- Where `post` and `group` do their work.
use Rattle.std.proofs.Common.{◌≡◌, ◌∙◌, ℕ, List, Result, Some, ap}
use Rattle.dp_draws.specs.Taking.{take_draws}
use Rattle.dp_domain.specs.declared.values.Value.TheVariants as value
use Rattle.dp_io.specs.Shelf.{Files}
use Rattle.dp_pipeline.specs.declared.content.Content.{Content}
use Rattle.dp_session.specs.declared.refusal.Refusal.{Refusal}
use Rattle.dp_session.specs.Privacy.{text_records}
use Rattle.dp_session.specs.Singles.{Single, post_verdict, group_verdict, single_shape, single_slot, single_text}
use Rattle.dp_runner.specs.declared.form.Form.TheVariants as form
use Rattle.dp_runner.specs.Forms.{form_of}
use Rattle.dp_runner.specs.Group.{GroupForm}
use Rattle.dp_runner.specs.Laws.{IsDone, HasData, data_root}
use Rattle.dp_runner.specs.OneRelease.{PlanForm, slot_outcome, release_outcome}
use Rattle.dp_runner.specs.Outcome.{Source, once_read}
use Rattle.dp_runner.specs.Post.{PostForm}
use Rattle.dp_runner.specs.ReleaseLaws.{WritesRelease}
use Rattle.dp_runner.specs.Sessions.{Opened}
use Rattle.dp_runner.proofs.FormRuns.{form-done}
use Rattle.dp_runner.proofs.ReleaseRuns.{slot-given}
use Rattle.dp_runner.proofs.Transcripts.{data-complete, done-is}

release-done : (names : PlanForm) (verdict : Content → Result Single Refusal) (files : Files) (source : Source)
    → (content : Content) (text draws last : List ℕ) → HasData names.pipeline_name names.data_name files content text
    → take_draws source.step source.state (single_shape (verdict content)) ≡ record { draws = Some draws; last = last }
    → IsDone
    (release_outcome names (λ found. single_slot (verdict found.pipeline) (value.Rows found.rows)) files source)
    (single_text (verdict content) (data_root content text) draws) last
unfolding release_outcome
release-done names verdict files source content text draws last h gives =
    let slot = λ (found : Opened). single_slot (verdict found.pipeline) (value.Rows found.rows) in
    done-is _ _ last
    (ap (once_read source (λ (found : Opened). slot_outcome source (slot found)))
    (data-complete names.pipeline_name names.data_name files content text h)
    ∙ slot-given source (slot (record { pipeline = content; rows = text_records content text })) draws last gives)

pub post-done : (words : List (List ℕ)) (post : PostForm) → form_of words ≡ Some (form.Post post)
    → WritesRelease words post.names (λ content. post_verdict content post.names.plan post.posts)
post-done words post is files source content text draws last h gives =
    form-done words (form.Post post) files source _ last is
    (release-done post.names (λ found. post_verdict found post.names.plan post.posts) files source content text draws
    last h gives)

pub group-done : (words : List (List ℕ)) (group : GroupForm) → form_of words ≡ Some (form.Group group)
    → WritesRelease words group.names (λ content. group_verdict content group.names.plan group.column group.texts)
group-done words group is files source content text draws last h gives =
    form-done words (form.Group group) files source _ last is
    (release-done group.names (λ found. group_verdict found group.names.plan group.column group.texts) files source
    content text draws last h gives)
