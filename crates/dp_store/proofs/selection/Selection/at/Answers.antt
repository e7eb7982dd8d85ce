use Rattle.std.proofs.Common.{◌≡◌, length, sym, ap, ◌∙◌, arith}
use Rattle.dp_store.proofs.AllNumbers.{all-length, all-at}
use Rattle.dp_store.proofs.selection.Selection.at.Goals as goal

pub overflow_cast-result : goal.overflow_cast-result
overflow_cast-result c =
    let size : length c.args.self.now ≡ c.in-All.count = ap length (sym c.self.view_is) ∙ all-length _ _ c.in-All.is in
    omega (arith, c.requires)

pub returns-in-All : goal.returns-in-All
returns-in-All c =
    let size : length c.args.self.now ≡ c.in-All.count = ap length (sym c.self.view_is) ∙ all-length _ _ c.in-All.is in
    rw (← c.self.view_is) (all-at _ c.in-All.count c.args.k c.in-All.is (omega (arith, c.requires)))
