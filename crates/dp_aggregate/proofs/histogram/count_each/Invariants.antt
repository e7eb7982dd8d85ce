use Rattle.std.proofs.Common.{◌≡◌, ℕ, ◌<◌, get_or, take, pos, vec_len}
use Rattle.std.specs.Prelude.{nat_eq}
use Rattle.dp_domain.specs.Distance.{occurrences}
use Rattle.dp_aggregate.proofs.histogram.count_each.Given as goal

abbrev pub invariant-loop-category : goal.invariant-loop-category
invariant-loop-category l = record {
  cells : vec_len l.cells ≡ l.n;
  counted : (k : ℕ) → k < l.n → get_or l.cells.items k (pos 0) ≡ pos (occurrences nat_eq (take l.category-index l.categories) k);
}
