use Rattle.std.proofs.Common.{◌∙◌, ◌+◌, ◌++◌, ◌∷◌, ℕ, List, refl, ap}
use Rattle.std.proofs.lemmas.Result.{err_from_is_err_and}
use Rattle.std.specs.Prelude.{string_bytes}
use Rattle.dp_domain.specs.declared.values.Value.TheVariants as value
use Rattle.dp_law.proofs.Taking.{takes-nothing}
use Rattle.dp_pipeline.specs.declared.content.Content.{Content}
use Rattle.dp_pipeline.specs.Accepted.{siblings_open}
use Rattle.dp_session.specs.QueryLines.{numbered, cost_text}
use Rattle.dp_session.specs.Verdicts.{root_spent}
use Rattle.dp_session.specs.Works.{meaning_of}
use Rattle.dp_session.proofs.ServedLines.{work-serves, work-value, next-number, work-fault, no-memory, line-no_memory, line-made, work-at, refused-made, refused-at, refusal-told, refusal-stands}
use Rattle.dp_session.proofs.session.line_text.Goals as goal

pub serve-requires-clause-serves : goal.serve-requires-clause-serves
serve-requires-clause-serves g c =
    let s = c.requires.somewhere in
    work-serves c.args.queries.now c.args.store.now c.args.values.now s.past c.args.line.now (meaning_of c.in-Ok.work) s.at (c.in-Ok.ensures.settles s.past s.at.stands)

pub serve-requires-clause-next : goal.serve-requires-clause-next
serve-requires-clause-next g c =
    let s = c.requires.somewhere in
    next-number c.args.queries.now c.args.store.now c.args.values.now s.past c.answered-number.result _ s.at c.answered-number.ensures c.settle.ensures.counted

pub returns-in_err-done-in-Ok-clause-text : goal.returns-in_err-done-in-Ok-clause-text
returns-in_err-done-in-Ok-clause-text g c = λ past at.
    let p = err_from_is_err_and c.from_residual.result c.from_residual.ensures.1 in
    let settled = c.in-Ok.ensures.settles past at.stands in
    let here = work-value c.args.queries.now c.args.store.now c.args.values.now past c.args.line.now (meaning_of c.in-Ok.work) at settled in
    work-fault string_bytes c.from_residual.result c.in_err-done-in-Ok.field-0.0 p.0 _ c.args.queries.now.pipeline (value.Rows c.args.store.now.records) past c.args.line.now _
    (meaning_of c.in-Ok.work) p.1 p.2 settled (c.in_err-done-in-Ok.ensures.text _ here)

pub returns-in_err-accepted_line-in-Ok-clause-text : goal.returns-in_err-accepted_line-in-Ok-clause-text
returns-in_err-accepted_line-in-Ok-clause-text g c = λ past at.
    let p = err_from_is_err_and c.from_residual-in_err-accepted_line-in-Ok.result c.from_residual-in_err-accepted_line-in-Ok.ensures.1 in
    let settled = c.in-Ok.ensures.settles past at.stands in
    let here = work-value c.args.queries.now c.args.store.now c.args.values.now past c.args.line.now (meaning_of c.in-Ok.work) at settled in
    line-no_memory string_bytes string_bytes c.from_residual-in_err-accepted_line-in-Ok.result p.0 c.in_ok-done-in-Ok.done _ c.args.queries.now.pipeline (value.Rows c.args.store.now.records)
    past c.args.line.now _ (meaning_of c.in-Ok.work) p.1 p.2 settled (c.in_ok-done-in-Ok.ensures.text _ here)

pub returns-in_err-refused_line-in-Err-Refused-clause-text : goal.returns-in_err-refused_line-in-Err-Refused-clause-text
returns-in_err-refused_line-in-Err-Refused-clause-text g c = λ past at.
    let p = err_from_is_err_and c.from_residual-in_err-refused_line-in-Err-Refused.result c.from_residual-in_err-refused_line-in-Err-Refused.ensures.1 in
    no-memory string_bytes c.from_residual-in_err-refused_line-in-Err-Refused.result p.0 _ _ p.1 p.2 (takes-nothing _ _ _)

pub returns-in_ok-accepted_line-in-Ok-clause-text : goal.returns-in_ok-accepted_line-in-Ok-clause-text
returns-in_ok-accepted_line-in-Ok-clause-text g c = λ past at.
    let pipeline = c.args.queries.now.pipeline in
    let settled = c.in-Ok.ensures.settles past at.stands in
    let here = work-value c.args.queries.now c.args.store.now c.args.values.now past c.args.line.now (meaning_of c.in-Ok.work) at settled in
    let count = c.answered-number.ensures ∙ c.settle.ensures.counted ∙ ap (λ (n : ℕ). n + 1) at.stands.counted in
    let spends = c.spent-spent.ensures (c.args.line.now ∷ past) (c.in-Ok.ensures.stands past at.stands) ∙ ap (λ (p : Content). root_spent p (c.args.line.now ∷ past)) c.settle.ensures.same in
    let text = c.in_ok-accepted_line-in-Ok.ensures ∙ ap (λ (done : List ℕ). numbered c.answered-number.result (done ++ cost_text c.in-Ok.work.cost c.spent-spent.result)) c.as_str.ensures.value in
    line-made string_bytes c.in_ok-done-in-Ok.done (string_bytes c.in_ok-accepted_line-in-Ok.field-0) _ pipeline (value.Rows c.args.store.now.records) past c.args.line.now
    (meaning_of c.in-Ok.work) c.answered-number.result c.in-Ok.work.cost c.spent-spent.result settled (c.in_ok-done-in-Ok.ensures.text _ here) text count refl spends

pub returns-in_ok-accepted_line-in-Ok-clause-at : goal.returns-in_ok-accepted_line-in-Ok-clause-at
returns-in_ok-accepted_line-in-Ok-clause-at g c = λ past at.
    let settled = c.in-Ok.ensures.settles past at.stands in
    let here = work-value c.args.queries.now c.args.store.now c.args.values.now past c.args.line.now (meaning_of c.in-Ok.work) at settled in
    let count = c.answered-number.ensures ∙ c.settle.ensures.counted ∙ ap (λ (n : ℕ). n + 1) at.stands.counted in
    let stay = c.siblings_open-all_stay.ensures ∙ ap (λ (p : Content). siblings_open p) c.pipeline.ensures in
    work-at c.args.queries.now c.settle.new.self c.args.store.now c.args.values.now c.serve.new.values past c.args.line.now (meaning_of c.in-Ok.work) c.siblings_open-all_stay.result
    c.answered-number.result at settled (c.in-Ok.ensures.stands past at.stands) c.settle.ensures.same stay count (c.in_ok-done-in-Ok.ensures.values _ here) c.in_ok-done-in-Ok.ensures.held

pub returns-in_ok-refused_line-in-Err-Refused-clause-text : goal.returns-in_ok-refused_line-in-Err-Refused-clause-text
returns-in_ok-refused_line-in-Err-Refused-clause-text g c = λ past at.
    let count = c.answered.ensures ∙ c.settle.ensures.counted ∙ ap (λ (n : ℕ). n + 1) at.stands.counted in
    refused-made _ (string_bytes c.in_ok-refused_line-in-Err-Refused.field-0) c.args.queries.now.pipeline (value.Rows c.args.store.now.records) past c.args.line.now c.in-Err-Refused.refused
    c.answered.result refl (refusal-told c.in-Err-Refused.field-0 c.in-Err-Refused.refused _ c.in-Err-Refused.field-0-is (c.in-Err-Refused.ensures.settles past at.stands))
    c.in_ok-refused_line-in-Err-Refused.ensures count

pub returns-in_ok-refused_line-in-Err-Refused-clause-at : goal.returns-in_ok-refused_line-in-Err-Refused-clause-at
returns-in_ok-refused_line-in-Err-Refused-clause-at g c = λ past at.
    refused-at c.args.queries.now c.settle.new.self c.args.store.now c.args.values.now past c.args.line.now c.in-Err-Refused.refused at
    (refusal-told c.in-Err-Refused.field-0 c.in-Err-Refused.refused _ c.in-Err-Refused.field-0-is (c.in-Err-Refused.ensures.settles past at.stands))
    (refusal-stands c.in-Err-Refused.field-0 c.in-Err-Refused.refused _ c.in-Err-Refused.field-0-is (c.in-Err-Refused.ensures.stands past at.stands)) c.settle.ensures.same

pub returns-in-Err-NoMemory-clause-text : goal.returns-in-Err-NoMemory-clause-text
returns-in-Err-NoMemory-clause-text g c = λ past at. takes-nothing _ _ _
