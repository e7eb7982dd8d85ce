use Rattle.dp_chain.specs.contracts.any_transformation.AnyTransformationTransformation.TheImpl.{mapping-value}
use Rattle.std.proofs.Common.{sym}
use Rattle.dp_chain.specs.contracts.any_transformation.AnyTransformationTransformation.TheImpl.Laws.{law-law}
use Rattle.dp_chain.proofs.LineSteps.{map-more, map-past, map-end}
use Rattle.dp_chain.proofs.line.map_all.Goals as goal

pub returns-in_default : goal.returns-in_default
returns-in_default c =
    map-past mapping-value.it c.args.stages.now c.loop-stage.stage-index c.stage-item.result c.args.d c.loop-stage.at
    c.loop-stage-test.true c.stage-item.is c.loop-stage.invariant.forward c.in_default.ensures

pub loop-stage-preserved : goal.loop-stage-preserved
loop-stage-preserved c = record {
  few = (law-law c.stage-item.result).limited c.loop-stage.at c.in-Ok.next (sym c.in-Ok.ensures);
  forward = map-more mapping-value.it c.args.stages.now c.loop-stage.stage-index c.stage-item.result c.args.d c.loop-stage.at c.in-Ok.next
      c.loop-stage-test.true c.stage-item.is c.loop-stage.invariant.forward c.in-Ok.ensures;
}

pub returns : goal.returns
returns c =
    map-end mapping-value.it c.args.stages.now c.loop-stage.stage-index c.args.d c.loop-stage.at c.loop-stage.invariant.few
    c.loop-stage-test.false c.loop-stage.invariant.forward
