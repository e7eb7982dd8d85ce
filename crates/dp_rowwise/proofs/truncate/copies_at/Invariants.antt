use Rattle.std.proofs.Common.{◌≡◌, take, map}
use Rattle.dp_rowwise.specs.Truncate.{record_at}
use Rattle.dp_rowwise.proofs.truncate.copies_at.Given as goal

abbrev pub invariant-loop-place : goal.invariant-loop-place
invariant-loop-place l = l.copies.items ≡ map (record_at l.rows) (take l.place-index l.places)
