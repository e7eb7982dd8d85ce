use Rattle.std.proofs.Common.{arith, pos}
use Rattle.std.proofs.lemmas.Int.{ints, to_z-of_z}
use Rattle.std.proofs.lemmas.List.Sums.{fold_more}
use Rattle.dp_aggregate.proofs.sum.add_all.Goals as goal

pub loop-number-preserved : goal.loop-number-preserved
loop-number-preserved c =
    let small = c.requires.small c.loop-number.number-index (pos 0) c.loop-number-test.true in
    record {
      total = grind (arith, ints, to_z-of_z, fold_more);
      low = omega (arith, ints, small.0, small.1);
      high = omega (arith, ints, small.0, small.1);
    }
