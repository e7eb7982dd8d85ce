use Rattle.std.proofs.Common.{[], ◌∷◌, sym}
use Rattle.dp_domain.specs.declared.values.Value.TheVariants as value
use Rattle.dp_rowwise.specs.Truncate.{record_at}
use Rattle.dp_chain.specs.contracts.any_transformation.AnyTransformationTransformation.TheImpl.{ghosts as stage_ghosts}
use Rattle.dp_chain.proofs.LineSteps.{value-more, value-end}
use Rattle.dp_store.specs.Elements.{element_value}
use Rattle.dp_store.proofs.Passes.{none-left}
use Rattle.dp_store.proofs.element.element_of.Goals as goal

pub returns-in_default-clause-value : goal.returns-in_default-clause-value
returns-in_default-clause-value c =
    let rows = c.args.store.now.records in
    let alone = value.Rows (record_at rows c.args.number ∷ []) in
    let at = element_value rows c.loop-stage.element in
    none-left c.args.stages.now c.loop-stage.stage-index c.stage-item.result alone at c.loop-stage-test.true c.stage-item.is
    c.requires.rowwise c.loop-stage.invariant.forward c.in_default.ensures.value

pub loop-stage-preserved : goal.loop-stage-preserved
loop-stage-preserved c =
    let rows = c.args.store.now.records in
    let alone = value.Rows (record_at rows c.args.number ∷ []) in
    let at = element_value rows c.loop-stage.element in
    let next = element_value rows c.in-Some.next in
    record {
      stored = c.in-Some.ensures.stored;
      forward = value-more stage_ghosts.mapping c.args.stages.now c.loop-stage.stage-index c.stage-item.result alone at next
          c.loop-stage-test.true c.stage-item.is c.loop-stage.invariant.forward (sym c.in-Some.ensures.value);
    }

pub returns-clause-value : goal.returns-clause-value
returns-clause-value c =
    let rows = c.args.store.now.records in
    let alone = value.Rows (record_at rows c.args.number ∷ []) in
    let at = element_value rows c.loop-stage.element in
    sym (value-end stage_ghosts.mapping c.args.stages.now c.loop-stage.stage-index alone at c.loop-stage-test.false
    c.loop-stage.invariant.forward)
