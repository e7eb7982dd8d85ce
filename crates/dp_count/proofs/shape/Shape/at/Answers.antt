use Rattle.std.proofs.Common.{sym, ◌∙◌}
use Rattle.dp_count.proofs.Runs.{bounds-here, bounds-past, bounds-past_length, bounds-end}
use Rattle.dp_count.proofs.shape.Shape.at.Goals as goal

pub returns-then-left-run : goal.returns-then-left-run
returns-then-left-run c =
    sym c.loop-run.invariant.there ∙ bounds-here _ _ _ _ c.loop-run-test.true c.if-left-run.true

pub loop-run-preserved : goal.loop-run-preserved
loop-run-preserved c = record {
  there = sym (bounds-past _ _ _ _ c.loop-run-test.true c.if-left-run.false) ∙ c.loop-run.invariant.there;
  inside = bounds-past_length _ _ _ _ c.loop-run-test.true c.if-left-run.false c.loop-run.invariant.inside;
}

pub unreachable-requires : goal.unreachable-requires
unreachable-requires c = bounds-end _ _ _ c.loop-run-test.false c.loop-run.invariant.inside
