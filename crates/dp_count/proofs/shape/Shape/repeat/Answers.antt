use Rattle.std.proofs.Common.{arith}
use Rattle.dp_count.proofs.Runs.{AreRuns-one, bounds-one}
use Rattle.dp_count.proofs.shape.Shape.repeat.Goals as goal

pub invariant_of-result : goal.invariant_of-result
invariant_of-result c =
    rw (c.in_ok-push.ensures.items, c.new-runs.ensures.items) (AreRuns-one _ c.requires.bound (omega (arith, c.requires.few)))

pub returns : goal.returns
returns c = rw (c.in_ok-push.ensures.items, c.new-runs.ensures.items) (bounds-one _)
