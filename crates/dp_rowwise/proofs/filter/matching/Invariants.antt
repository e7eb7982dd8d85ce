use Rattle.std.proofs.Common.{◌≡◌, take}
use Rattle.std.specs.Prelude.{filter}
use Rattle.dp_domain.specs.Distance.{text_eq}
use Rattle.dp_domain.specs.Users.{cell}
use Rattle.dp_rowwise.proofs.filter.matching.Given as goal

abbrev pub invariant-loop-cells : goal.invariant-loop-cells
invariant-loop-cells l = l.kept.items ≡ filter (λ cells. text_eq (cell l.column cells) l.text) (take l.cells-index l.rows)
