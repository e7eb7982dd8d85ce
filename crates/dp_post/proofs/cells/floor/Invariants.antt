use Rattle.std.proofs.Common.{◌≡◌, ◌++◌, take, drop, map}
use Rattle.dp_post.specs.Posts.{floored}
use Rattle.dp_post.proofs.cells.floor.Given as goal

abbrev pub invariant-loop-cell : goal.invariant-loop-cell
invariant-loop-cell l = take l.cell-index l.cells ++ map floored (drop l.cell-index l.cells) ≡ map floored l.initial.cells
