use Rattle.std.proofs.Common.{sym, subst, map, drop, ◌+◌}
use Rattle.dp_domain.specs.declared.values.Value.{Value}
use Rattle.dp_chain.specs.Lines.{Runs}
use Rattle.dp_chain.specs.contracts.any_transformation.AnyTransformationTransformation.TheImpl.{mapping-value}
use Rattle.dp_chain.proofs.LineSteps.{value-more, value-end, runs-next}
use Rattle.dp_chain.proofs.line.apply_all.Goals as goal

pub apply-requires : goal.apply-requires
apply-requires c =
    (runs-next mapping-value.it c.args.stages.now c.loop-stage.stage-index c.stage-item.result c.loop-stage.at
    c.loop-stage-test.true c.stage-item.is c.loop-stage.invariant.runs).0

pub loop-stage-preserved : goal.loop-stage-preserved
loop-stage-preserved c =
    let xs = c.args.stages.now in
    let rest = (runs-next mapping-value.it xs c.loop-stage.stage-index c.stage-item.result c.loop-stage.at
    c.loop-stage-test.true c.stage-item.is c.loop-stage.invariant.runs).1 in
    record {
      runs = subst (λ (w : Value). Runs (map mapping-value.it (drop (c.loop-stage.stage-index + 1) xs)) w) (sym c.in_ok-at.ensures.value) rest;
      forward = value-more mapping-value.it xs c.loop-stage.stage-index c.stage-item.result c.args.v c.loop-stage.at c.in_ok-at.at
          c.loop-stage-test.true c.stage-item.is c.loop-stage.invariant.forward c.in_ok-at.ensures.value;
    }

pub returns : goal.returns
returns c =
    value-end mapping-value.it c.args.stages.now c.loop-stage.stage-index c.args.v c.loop-stage.at c.loop-stage-test.false c.loop-stage.invariant.forward
