use Rattle.std.proofs.Common.{◌∙◌, List, ℕ, Ok, ap, subst}
use Rattle.std.proofs.lemmas.Result.{err_from_is_err_and}
use Rattle.std.specs.Prelude.{string_bytes}
use Rattle.dp_io.specs.Sink.{appended, AddsFront}
use Rattle.dp_session.proofs.Privacy.{texts-privacy}
use Rattle.dp_session.proofs.ServedLines.{text-at, write-failed}
use Rattle.dp_session.proofs.session.Session.answer.Goals as goal

pub returns-in_err-write_all-clause-line : goal.returns-in_err-write_all-clause-line
returns-in_err-write_all-clause-line g c = λ pipeline rows past s.
    let t = rw (← c.self.view_is) at s in
    let p = err_from_is_err_and c.from_residual-in_err-write_all.result c.from_residual-in_err-write_all.ensures.1 in
    let made = text-at string_bytes (Ok c.in_ok-text.text) _ c.self.inside.queries.pipeline pipeline c.self.inside.store.records rows past c.args.line.now t.pipeline_is t.records_are
    (c.in_ok-text.ensures.text past t.at) in
    write-failed c.from_residual-in_err-write_all.result p.0 _ _ _ _ p.1 p.2
    (made.0, made.1, subst (λ (bytes : List ℕ). AddsFront (g.K.Sink.held c.args.out.now) (g.K.Sink.held c.write_all.new.sink) bytes) (c.as_bytes.ensures.value ∙ made.2) c.in_err-write_all.ensures.front)

pub returns-clause-line : goal.returns-clause-line
returns-clause-line g c = λ pipeline rows past s.
    let t = rw (← c.self.view_is) at s in
    let made = text-at string_bytes (Ok c.in_ok-text.text) _ c.self.inside.queries.pipeline pipeline c.self.inside.store.records rows past c.args.line.now t.pipeline_is t.records_are
    (c.in_ok-text.ensures.text past t.at) in
    (made.0, made.1, c.in_ok-write_all.ensures.written ∙ ap (appended (g.K.Sink.held c.args.out.now)) (c.as_bytes.ensures.value ∙ made.2))

pub returns-then-self-clause-private : goal.returns-then-self-clause-private
returns-then-self-clause-private g c = λ bytes is. texts-privacy bytes c.args.self.now.queries.pipeline is

pub returns-in_err-text-clause-private : goal.returns-in_err-text-clause-private
returns-in_err-text-clause-private g c = λ bytes is. texts-privacy bytes c.args.self.now.queries.pipeline is

pub returns-in_err-write_all-clause-private : goal.returns-in_err-write_all-clause-private
returns-in_err-write_all-clause-private g c = λ bytes is. texts-privacy bytes c.args.self.now.queries.pipeline is

pub returns-clause-private : goal.returns-clause-private
returns-clause-private g c = λ bytes is. texts-privacy bytes c.args.self.now.queries.pipeline is
