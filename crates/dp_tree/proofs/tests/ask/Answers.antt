use Rattle.std.proofs.Common.{◌+◌, sym, subst}
use Rattle.dp_tree.specs.Table.{TreeValue, IsNext}
use Rattle.dp_tree.proofs.Standing.{next-asked}
use Rattle.dp_tree.proofs.tests.ask.Goals as goal

pub returns-in-Ok : goal.returns-in-Ok
returns-in-Ok c =
    subst (λ (t : TreeValue). IsNext t (c.args.query + 1)) (sym c.in-Ok.ensures.admitted)
    (next-asked c.args.tree.now c.args.node c.args.query c.args.cost c.requires.next)
