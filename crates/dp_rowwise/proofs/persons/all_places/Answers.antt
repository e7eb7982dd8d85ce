use Rattle.std.proofs.Common.{arith}
use Rattle.std.proofs.lemmas.Grind.{common_steps}
use Rattle.dp_domain.proofs.Places.{range-push}
use Rattle.dp_rowwise.proofs.persons.all_places.Goals as goal

pub loop-place-preserved : goal.loop-place-preserved
loop-place-preserved c = let next = range-push c.loop-place.place in grind (arith, common_steps)
