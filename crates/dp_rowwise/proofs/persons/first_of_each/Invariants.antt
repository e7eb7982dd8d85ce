use Rattle.std.proofs.Common.{◌≡◌, take}
use Rattle.std.specs.Prelude.{filter, nat_lt}
use Rattle.dp_rowwise.specs.Truncate.{rank}
use Rattle.dp_rowwise.proofs.persons.first_of_each.Given as goal

abbrev pub invariant-loop-index : goal.invariant-loop-index
invariant-loop-index g l = l.kept.items ≡ filter (λ i. nat_lt (rank (g.R.Records.column l.records) (g.R.Records.rows l.records) i) l.most) (take l.index l.ordered)
