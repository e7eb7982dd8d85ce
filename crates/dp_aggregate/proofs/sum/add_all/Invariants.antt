use Rattle.std.proofs.Common.{◌≡◌, ◌*◌, ◌^◌, take, pos, neg_ℤ, ◌≤ℤ◌}
use Rattle.dp_domain.specs.Sums.{int_sum}
use Rattle.dp_aggregate.proofs.sum.add_all.Given as goal

abbrev pub invariant-loop-number : goal.invariant-loop-number
invariant-loop-number l = record {
  total : l.total ≡ int_sum (take l.number-index l.numbers);
  low : neg_ℤ (pos (2 ^ 31 * l.number-index)) ≤ℤ l.total;
  high : l.total ≤ℤ pos (2 ^ 31 * l.number-index);
}
