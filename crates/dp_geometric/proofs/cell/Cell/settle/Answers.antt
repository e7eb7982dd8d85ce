use Rattle.dp_geometric.proofs.Settling.{settled}
use Rattle.dp_geometric.proofs.cell.Cell.settle.Goals as goal

pub returns : goal.returns
returns c =
    let cell = c.args.self.now in
    settled cell.lo cell.hi c.args.v c.args.noise c.nearest.result c.nearest-2.result cell.least cell.greatest c.ranges.v c.requires.least c.requires.greatest
    c.nearest.ensures.least c.nearest.ensures.greatest c.nearest-2.ensures.least c.nearest-2.ensures.greatest c.nearest.ensures.value c.nearest-2.ensures.value
