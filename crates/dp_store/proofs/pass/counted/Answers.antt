use Rattle.std.proofs.Common.{◌∙◌, ◌<◌, length, sym, arith}
use Rattle.dp_store.proofs.RecordPasses.{counts-element, counts-none, given-nothing}
use Rattle.dp_store.proofs.pass.counted.Goals as goal
use Rattle.dp_store.proofs.pass.counted.Goals.{then-is_some, else-is_some}

pub loop-k-init : goal.loop-k-init
loop-k-init c = record {
  few = omega arith;
  value = sym (given-nothing c.args.store.now.records c.args.stages.now c.requires.rowwise);
}

pub loop-k-preserved : goal.loop-k-preserved
loop-k-preserved c =
    let rows = c.args.store.now.records in
    let stages = c.args.stages.now in
    let base = c.args.base.now in
    let within : c.loop-k.k < length base = omega (arith, c.loop-k-test.true, c.len-k-end.ensures) in
    let some = sym c.is_some.ensures in
    elim c.if-is_some.branch [
      | then-is_some w ↦ record {
        few = omega (arith, w.count-is, c.loop-k.invariant.few);
        value = w.count-is ∙ counts-element rows stages c.requires.rowwise base c.loop-k.k c.at.result c.loop-k.count c.element_of.result
            within c.at.ensures c.element_of.ensures.value (some ∙ w.if-is_some.true) c.loop-k.invariant.value;
      }
      | else-is_some w ↦ record {
        few = omega (arith, w.count-is, c.loop-k.invariant.few);
        value = w.count-is ∙ counts-none rows stages c.requires.rowwise base c.loop-k.k c.at.result c.loop-k.count c.element_of.result
            within c.at.ensures c.element_of.ensures.value (some ∙ w.if-is_some.false) c.loop-k.invariant.value;
      }
    ]
