use Rattle.std.proofs.Common.{[]}
use Rattle.dp_domain.specs.declared.values.Value.TheVariants as value
use Rattle.dp_chain.specs.contracts.any_transformation.AnyTransformationTransformation.TheImpl.{ghosts as stage_ghosts}
use Rattle.dp_chain.proofs.LineSteps.{value-more, value-end}
use Rattle.dp_store.specs.Listings.{no_elements}
use Rattle.dp_store.proofs.listing.kind_after.Goals as goal

pub loop-stage-preserved : goal.loop-stage-preserved
loop-stage-preserved c =
    value-more stage_ghosts.mapping c.args.stages.now c.loop-stage.stage-index c.stage-item.result (value.Rows [])
    (no_elements c.loop-stage.kind)
    (no_elements c.next_kind-kind.result) c.loop-stage-test.true c.stage-item.is c.loop-stage.invariant c.next_kind-kind.ensures

pub returns : goal.returns
returns c =
    value-end stage_ghosts.mapping c.args.stages.now c.loop-stage.stage-index (value.Rows []) (no_elements c.loop-stage.kind)
    c.loop-stage-test.false c.loop-stage.invariant
