use Rattle.std.proofs.Common.{◌≡◌, ◌<◌, ◌+◌, ◌-◌, Some, length, slice_get}
use Rattle.dp_tree.specs.Lists.{frozen_from}
use Rattle.dp_tree.proofs.walk.nearest_frozen.Given as goal

abbrev pub invariant-loop-level : goal.invariant-loop-level
invariant-loop-level g l = record {
  within : l.at < length l.numbers;
  link : slice_get l.trail.links l.at ≡ Some l.link;
  left : frozen_from l.numbers l.trail.links l.node (l.depth - l._level) l.at ≡ frozen_from l.numbers l.trail.links l.node l.depth l.place;
  steps : l.steps ≡ l.initial.steps + l._level;
}
