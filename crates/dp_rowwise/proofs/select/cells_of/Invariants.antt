use Rattle.std.proofs.Common.{◌≡◌, map, take}
use Rattle.dp_domain.specs.Users.{cell}
use Rattle.dp_rowwise.proofs.select.cells_of.Given as goal

abbrev pub invariant-loop-cells : goal.invariant-loop-cells
invariant-loop-cells l = l.texts.items ≡ map (cell l.column) (take l.cells-index l.rows)
