use Rattle.std.proofs.Common.{ℕ, length, ◌∙◌, ap}
use Rattle.std.specs.Prelude.{List, filter, nat_lt}
use Rattle.std.proofs.lemmas.List.Sorted.{IsNonDecreasingBy-from_sort}
use Rattle.dp_domain.proofs.Places.{filter-sorted}
use Rattle.dp_rowwise.specs.Truncate.{rank, kept_places}
use Rattle.dp_rowwise.proofs.persons.kept_places.Goals as goal

pub returns : goal.returns
unfolding kept_places
returns g c =
    let rows = g.R.Records.rows c.args.records.now in
    let keep = λ (i : ℕ). nat_lt (rank (g.R.Records.column c.args.records.now) rows i) c.args.most in
    filter-sorted keep (length rows) c.in_ok-ordered.ordered.items c.in_ok-kept.kept.items c.sort_unstable.new.self.items
    c.in_ok-ordered.ensures.all (c.in_ok-kept.ensures ∙ ap (λ (l : List ℕ). filter keep l) c.as_slice.ensures.value) c.sort_unstable.ensures.permutation
    (IsNonDecreasingBy-from_sort (λ i. i) c.sort_unstable.new.self.items c.sort_unstable.ensures.sorted)
