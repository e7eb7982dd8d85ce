use Rattle.std.proofs.Common.{refl}
use Rattle.dp_session.proofs.Standing.{new-stands}
use Rattle.dp_session.proofs.queries.Queries.new.Goals as goal

pub returns-clause-stands : goal.returns-clause-stands
returns-clause-stands c = new-stands _ refl (c.in_ok-tree.ensures.siblings) (c.in_ok-tree.ensures.rows)
