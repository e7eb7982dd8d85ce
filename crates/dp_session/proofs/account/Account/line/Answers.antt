use Rattle.std.proofs.Common.{◌≡◌, ap, sym, ◌∙◌, subst}
use Rattle.dp_io.specs.Sink.{appended}
use Rattle.dp_pipeline.specs.declared.content.Content.{Content}
use Rattle.dp_session.specs.Accounts.{AccountValue}
use Rattle.dp_session.specs.QueryLines.{account_line}
use Rattle.dp_session.specs.Settling.{StandAt}
use Rattle.dp_session.proofs.account.Account.line.Goals as goal

pub returns-clause-line : goal.returns-clause-line
returns-clause-line g c = λ pipeline past s.
    let stands = subst (λ (a : AccountValue). StandAt a.queries past) (sym c.self.view_is) s.queries in
    let same : c.self.inside.queries.pipeline ≡ pipeline = ap (λ (a : AccountValue). a.queries.pipeline) c.self.view_is ∙ s.pipeline_is in
    c.in_ok-write_all.ensures.written
    ∙ ap (appended (g.K.Sink.held c.args.out.now))
    (c.as_bytes.ensures.value ∙ c.in_ok-text.ensures.text past stands ∙ ap (λ (p : Content). account_line p past c.args.line.now) same)
