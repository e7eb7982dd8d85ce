use Rattle.std.proofs.Common.{◌≡◌, ap, sym, subst, Result, Ok, Err}
use Rattle.std.specs.Prelude.{string_bytes}
use Rattle.std.proofs.lemmas.Result.{err_from_is_err_and}
use Rattle.dp_count.specs.Results.{on_ok}
use Rattle.dp_domain.specs.declared.values.Value.TheVariants as value
use Rattle.dp_law.specs.Releasing.{Released}
use Rattle.dp_law.proofs.Taking.{takes-nothing}
use Rattle.dp_chain.specs.contracts.release.ReleaseMeasurement.TheImpl.{ghosts as release_ghosts}
use Rattle.dp_post.specs.Posted.{changed_by}
use Rattle.dp_post.specs.Posts.{posted}
use Rattle.dp_session.specs.declared.refusal.Refusal.{Refusal}
use Rattle.dp_session.specs.Sessions.{Drawing, MakesText}
use Rattle.dp_session.specs.Singles.{Single, changed_after, plan_verdict, single_slot}
use Rattle.dp_session.proofs.ServedLines.{no-memory}
use Rattle.dp_session.proofs.SingleTexts.{released-changed, refusal-made}
use Rattle.dp_session.proofs.single.post_text.Goals as goal

pub returns-in-Ok-clause-text : goal.returns-in-Ok-clause-text
returns-in-Ok-clause-text g c =
    let v = value.Rows c.args.store.now.records in
    let source : Drawing = record {
      step = g.D.Draws.step;
      before = g.D.Draws.state c.args.draws.now;
      after = g.D.Draws.state c.release_whole-released.new.draws;
    } in
    let m = release_ghosts.mechanism c.in-Ok.single.measurement in
    let released : Released source.step m.shape (λ draws. posted c.args.posts.now (m.function v draws)) source.before
    c.changed.result source.after =
    rw c.changed.ensures (released-changed source.step m.shape (m.function v) (posted c.args.posts.now) source.before
    c.release_whole-released.result source.after c.release_whole-released.ensures.released) in
    let verdict = ap (on_ok (changed_after c.args.posts.now)) c.in-Ok.ensures.single in
    subst (λ (r : Result Single Refusal). MakesText string_bytes c.released_lines.result source (single_slot r v)) (sym verdict)
    (c.released_lines.ensures.text source m.shape (λ draws. posted c.args.posts.now (m.function v draws)) released)

pub returns-in_err-refusal_lines-in-Err-Refused-clause-text : goal.returns-in_err-refusal_lines-in-Err-Refused-clause-text
returns-in_err-refusal_lines-in-Err-Refused-clause-text g c =
    let p = err_from_is_err_and c.from_residual.result c.from_residual.ensures.1 in
    no-memory string_bytes c.from_residual.result p.0 _ _ p.1 p.2 (takes-nothing _ _ _)

pub returns-in_ok-refusal_lines-in-Err-Refused-clause-text : goal.returns-in_ok-refusal_lines-in-Err-Refused-clause-text
returns-in_ok-refusal_lines-in-Err-Refused-clause-text g c =
    let refused : plan_verdict c.args.pipeline.now c.args.plan.now ≡ Err c.in-Err-Refused.refused =
    rw c.in-Err-Refused.field-0-is at c.in-Err-Refused.ensures.single in
    refusal-made g.D.Draws.step (g.D.Draws.state c.args.draws.now) _ c.in-Err-Refused.refused
    (value.Rows c.args.store.now.records) _ (ap (on_ok (changed_after c.args.posts.now)) refused) c.in_ok-refusal_lines-in-Err-Refused.ensures

pub returns-in-Err-NoMemory-clause-text : goal.returns-in-Err-NoMemory-clause-text
returns-in-Err-NoMemory-clause-text g c = takes-nothing _ _ _
