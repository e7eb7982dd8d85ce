use Rattle.std.proofs.Common.{w64}
use Rattle.std.proofs.lemmas.Int.{to_z-of_z}
use Rattle.dp_geometric.specs.CellProof.{cell-counts, cell-private}
use Rattle.dp_geometric.proofs.cell.Cell.new.Goals as goal

pub returns-clause-counts : goal.returns-clause-counts
returns-clause-counts c =
    rw (to_z-of_z w64 c.args.lo c.ranges.lo, to_z-of_z w64 c.args.hi c.ranges.hi)
    (cell-counts _ c.requires.ordered c.requires.below_one)

pub returns-clause-private : goal.returns-clause-private
returns-clause-private c =
    rw (to_z-of_z w64 c.args.lo c.ranges.lo, to_z-of_z w64 c.args.hi c.ranges.hi)
    (cell-private _ c.requires.ordered c.requires.below_one)
