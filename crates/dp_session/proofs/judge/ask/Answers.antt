use Rattle.std.proofs.Common.{subst, sym}
use Rattle.dp_tree.specs.Table.{TreeValue}
use Rattle.dp_tree.proofs.Standing.{next-asked}
use Rattle.dp_session.specs.Settling.{IsReady}
use Rattle.dp_session.proofs.Roots.{root-asked}
use Rattle.dp_session.proofs.judge.ask.Goals as goal

pub returns-in-Ok-ask-clause-ready : goal.returns-in-Ok-ask-clause-ready
returns-in-Ok-ask-clause-ready g c =
    subst (λ (t : TreeValue). IsReady t c.args.number) (sym c.in-Ok-ask.ensures.admitted) (record {
      next = next-asked c.args.tree.now c.args.node c.args.number c.in-Ok-cost_at.cost c.requires.next;
      root = root-asked c.args.tree.now c.args.node c.args.number c.in-Ok-cost_at.cost c.requires.root;
    })
