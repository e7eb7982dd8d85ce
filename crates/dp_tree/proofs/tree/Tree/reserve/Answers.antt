use Rattle.std.proofs.Common.{ap}
use Rattle.dp_tree.specs.Table.{TreeValue}
use Rattle.dp_tree.proofs.Standing.{stands-still}
use Rattle.dp_tree.proofs.tree.Tree.reserve.Goals as goal

pub returns-in_err-reserve-2-clause-stands : goal.returns-in_err-reserve-2-clause-stands
returns-in_err-reserve-2-clause-stands c =
    stands-still c.args.self.now _ (rw (c.in_ok-reserve.ensures.items, c.in_err-reserve-2.ensures.links) (ap (λ (t : TreeValue). t.rows) c.self.view_is))

pub returns-in_err-reserve-3-clause-stands : goal.returns-in_err-reserve-3-clause-stands
returns-in_err-reserve-3-clause-stands c =
    stands-still c.args.self.now _ (rw (c.in_ok-reserve.ensures.items, c.in_ok-reserve-2.ensures.links, c.in_err-reserve-3.ensures.items) (ap (λ (t : TreeValue). t.rows) c.self.view_is))

pub returns-clause-stands : goal.returns-clause-stands
returns-clause-stands c =
    stands-still c.args.self.now _ (rw (c.in_ok-reserve.ensures.items, c.in_ok-reserve-2.ensures.links, c.in_ok-reserve-3.ensures.items) (ap (λ (t : TreeValue). t.rows) c.self.view_is))
