use Rattle.std.proofs.Common.{◌≡◌, ◌≤◌, ◌+◌, ◌^◌}
use Rattle.dp_num.proofs.ratio.Ratio.powers.Given as goal

abbrev pub invariant-loop-exponent : goal.invariant-loop-exponent
invariant-loop-exponent l = record {
  low : l.low ≡ l.self.p ^ l._exponent;
  high : l.high ≡ l.self.q ^ l._exponent;
  few : l.high + l.low ≤ 2 ^ 62;
}
