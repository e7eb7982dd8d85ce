use Rattle.std.proofs.Common.{◌≡◌, ◌≤◌, ◌^◌, take}
use Rattle.std.specs.List.{sum}
use Rattle.dp_budget.proofs.budget.total.Given as goal

abbrev pub invariant-loop-mid : goal.invariant-loop-mid
invariant-loop-mid l = record {
  total : l.total ≡ sum (take l.mid-index l.mids);
  range : l.total ≤ 2 ^ 32;
}
