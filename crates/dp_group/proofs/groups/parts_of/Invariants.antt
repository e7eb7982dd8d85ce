use Rattle.std.proofs.Common.{◌≡◌, map, take}
use Rattle.dp_domain.specs.Distance.{text_eq}
use Rattle.dp_domain.specs.Users.{cell, group}
use Rattle.dp_rowwise.specs.Parts.{category_texts}
use Rattle.dp_group.proofs.groups.parts_of.Given as goal

abbrev pub invariant-loop-cells : goal.invariant-loop-cells
invariant-loop-cells l =
    l.groups.items
    ≡ map (λ text. group text_eq (cell l.fn.column) text (take l.cells-index l.rows)) (category_texts l.texts)
