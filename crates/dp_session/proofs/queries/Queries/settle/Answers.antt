use Rattle.std.proofs.Common.{◌+◌, Result, ap, ◌∙◌, subst}
use Rattle.dp_pipeline.specs.Accepted.{ratio_of}
use Rattle.dp_pipeline.specs.Queries.{query_of}
use Rattle.dp_session.specs.declared.refusal.Refusal.{Refusal}
use Rattle.dp_session.specs.Verdicts.{Grant, by_table, judge}
use Rattle.dp_session.specs.Settling.{QueriesValue, Settles, Extends}
use Rattle.dp_session.proofs.Standing.{verdict-is, settled-stands}
use Rattle.dp_session.proofs.queries.Queries.settle.Goals as goal

pub returns-clause-settles : goal.returns-clause-settles
returns-clause-settles g c = λ past s.
    let now = subst (λ (q : QueriesValue). Settles c.judge.result (judge (ratio_of q.pipeline) (by_table q.tree) (q.answered + 1) (query_of q.pipeline c.args.line.now))) c.self.view_is c.judge.ensures.settles in
    subst (λ (v : Result Grant Refusal). Settles c.judge.result v) (verdict-is c.args.self.now past c.args.line.now s) now

pub returns-clause-stands : goal.returns-clause-stands
returns-clause-stands g c = λ past s.
    let extends = subst (λ (q : QueriesValue). Extends c.judge.result (judge (ratio_of q.pipeline) (by_table q.tree) (q.answered + 1) (query_of q.pipeline c.args.line.now)) q.tree c.judge.new.tree) c.self.view_is c.judge.ensures.extends in
    settled-stands c.args.self.now _ past c.args.line.now c.judge.result s
    (ap (λ (q : QueriesValue). q.pipeline) c.self.view_is)
    (ap (λ (q : QueriesValue). q.answered + 1) c.self.view_is)
    (c.judge.ensures.siblings ∙ ap (λ (q : QueriesValue). q.tree.siblings_open) c.self.view_is)
    (returns-clause-settles g c past s)
    (subst (λ (v : Result Grant Refusal). Extends c.judge.result v c.args.self.now.tree c.judge.new.tree) (verdict-is c.args.self.now past c.args.line.now s) extends)
