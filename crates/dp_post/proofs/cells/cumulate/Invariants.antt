use Rattle.std.proofs.Common.{◌≡◌, ◌++◌, take, drop}
use Rattle.std.specs.List.{scan}
use Rattle.dp_post.specs.Posts.{clipped_sum, running_sums}
use Rattle.dp_post.proofs.cells.cumulate.Given as goal

abbrev pub invariant-loop-cell : goal.invariant-loop-cell
invariant-loop-cell l =
    take l.cell-index l.cells ++ scan clipped_sum clipped_sum l.sum (drop l.cell-index l.cells) ≡ running_sums l.initial.cells
