use Rattle.std.proofs.Common.{◌≡◌, take, map}
use Rattle.dp_store.specs.Selections.{number_at}
use Rattle.dp_store.proofs.store.numbers_at.Given as goal

abbrev pub invariant-loop-place : goal.invariant-loop-place
invariant-loop-place l = l.numbers.items ≡ map (number_at l.base) (take l.place-index l.places)
