use Rattle.std.proofs.Common.{ap, subst, IfSome, IsSome, ◌≡◌}
use Rattle.dp_tree.specs.Table.{row_of, TreeValue}
use Rattle.dp_session.specs.Settling.{QueriesValue}
use Rattle.dp_session.specs.Verdicts.{root_seat, past_events}
use Rattle.dp_session.proofs.Roots.{root-spends}
use Rattle.dp_session.proofs.queries.Queries.spent.Goals as goal

pub returns : goal.returns
returns c = λ past s.
    let t : c.self.inside.tree ≡ c.args.self.now.tree = ap (λ (q : QueriesValue). q.tree) c.self.view_is in
    root-spends (root_seat c.args.self.now.pipeline) (past_events c.args.self.now.pipeline past) c.args.self.now.tree c.spent.result s.tree
    (subst (λ (v : TreeValue). IsSome (row_of v 0)) t c.self.invariant.root)
    (subst (λ (v : TreeValue). IfSome (row_of v 0) (λ row. c.spent.result ≡ row.budget.spent)) t c.spent.ensures)
