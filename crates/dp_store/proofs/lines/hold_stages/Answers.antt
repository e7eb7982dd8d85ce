use Rattle.dp_domain.specs.declared.values.Value.TheVariants as value
use Rattle.dp_store.specs.Held.{held_value}
use Rattle.dp_store.specs.Selections.{selected}
use Rattle.dp_store.proofs.LineParts.{tail-len, next-runs, next-given, all-given}
use Rattle.dp_store.proofs.lines.hold_stages.Goals as goal

pub loop-place-preserved : goal.loop-place-preserved
loop-place-preserved c =
    let rows = c.args.store.now.records in
    let stages = c.args.stages.now in
    let at = held_value rows c.loop-place.held in
    let next = held_value rows c.in_ok-next.next in
    record {
      within = tail-len stages c.loop-place.place c.in_ok-next.used c.loop-place.invariant.within c.in_ok-next.ensures.used.1;
      held = c.in_ok-next.ensures.held;
      runs = next-runs stages c.loop-place.place c.in_ok-next.used at next c.loop-place.invariant.runs c.in_ok-next.ensures.value;
      forward = next-given stages c.loop-place.place c.in_ok-next.used (value.Rows (selected rows c.args.base.now)) at next
          c.loop-place.invariant.forward c.in_ok-next.ensures.value;
    }

pub returns-clause-value : goal.returns-clause-value
returns-clause-value c =
    all-given c.args.stages.now c.loop-place.place (value.Rows (selected c.args.store.now.records c.args.base.now))
    (held_value c.args.store.now.records c.loop-place.held) c.loop-place-test.false c.loop-place.invariant.forward
