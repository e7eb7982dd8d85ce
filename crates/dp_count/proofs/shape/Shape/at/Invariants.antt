use Rattle.std.proofs.Common.{◌≡◌, ◌<◌, drop, length, slice_get}
use Rattle.dp_count.specs.Bounds.{bounds}
use Rattle.dp_count.proofs.shape.Shape.at.Given as goal

abbrev pub invariant-loop-run : goal.invariant-loop-run
invariant-loop-run l = record {
  there : slice_get (bounds (drop l.run-index l.run-items)) l.left ≡ slice_get l.self l.k;
  inside : l.left < length (bounds (drop l.run-index l.run-items));
}
