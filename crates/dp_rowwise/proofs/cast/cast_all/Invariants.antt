use Rattle.std.proofs.Common.{◌≡◌, map, take}
use Rattle.dp_rowwise.specs.Cast.{cast}
use Rattle.dp_rowwise.proofs.cast.cast_all.Given as goal

abbrev pub invariant-loop-text : goal.invariant-loop-text
invariant-loop-text l = l.numbers.items ≡ map cast (take l.text-index l.texts)
