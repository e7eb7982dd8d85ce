use Rattle.std.proofs.Common.{rules, ◌≡◌}
use Rattle.std.specs.Ordering.{is_lt}
use Rattle.std.proofs.lemmas.Fn.{always_returns_same}
use Rattle.dp_rowwise.specs.Persons.{place_cmp}
use Rattle.dp_rowwise.proofs.Ordered.{place_cmp-weak}
use Rattle.dp_rowwise.proofs.persons.ordered_places.Goals as goal

pub returns-clause-sorted : goal.returns-clause-sorted
returns-clause-sorted g c =
    let order = place_cmp (g.R.Records.column c.args.records.now) (g.R.Records.rows c.args.records.now) in
    c.sort_unstable_by.ensures.sorted (λ i j. is_lt (order i j)) (place_cmp-weak (g.R.Records.column c.args.records.now) (g.R.Records.rows c.args.records.now))
    (always_returns_same _ (λ a r. is_lt r ≡ is_lt (order a.0.now a.1.0.now)) _ (λ a r f k. search rules))
