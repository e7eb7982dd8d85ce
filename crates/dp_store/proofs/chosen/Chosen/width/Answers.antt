use Rattle.std.proofs.Common.{◌<◌, length, sym, arith}
use Rattle.dp_store.proofs.ChosenRows.{width-within}
use Rattle.dp_store.proofs.chosen.Chosen.width.Goals as goal

pub returns-then-from-len-clause-cells : goal.returns-then-from-len-clause-cells
returns-then-from-len-clause-cells c =
    let within : c.args.place < length c.args.self.now.base.now = omega (arith, c.if-from-len.true, c.from.ensures, c.len.ensures) in
    sym (width-within c.columns.result c.args.self.now.store.now.records c.args.self.now.base.now c.args.place c.columns.ensures.each c.args.self.now.selection within)
