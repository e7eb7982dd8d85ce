use Rattle.std.proofs.Common.{◌≡◌, pos, to_z, w64, sym, ◌∙◌, ap, arith}
use Rattle.std.proofs.lemmas.Int.{to_z_pos}
use Rattle.dp_domain.specs.declared.values.Value.TheVariants as value
use Rattle.dp_store.specs.Selections.{selected}
use Rattle.dp_store.proofs.LineParts.{first-given, first-has, is_count, counted-given}
use Rattle.dp_store.proofs.lines.hold_of_records.Goals as goal

pub hold_whole-requires-clause-runs : goal.hold_whole-requires-clause-runs
hold_whole-requires-clause-runs c =
    let rows = value.Rows (selected c.args.store.now.records c.args.chosen.now) in
    first-has c.args.stages.now c.index-stages-0.result rows c.requires.some c.index-stages-0.is c.requires.runs

pub returns-then-front-eq0-clause-value : goal.returns-then-front-eq0-clause-value
returns-then-front-eq0-clause-value c =
    let rows = value.Rows (selected c.args.store.now.records c.args.chosen.now) in
    c.in_ok-hold_whole.ensures.value
    ∙ sym (first-given c.args.stages.now c.index-stages-0.result rows c.requires.some c.index-stages-0.is)

pub returns-in-Some-Count-clause-value : goal.returns-in-Some-Count-clause-value
returns-in-Some-Count-clause-value c =
    let front = c.rowwise_len-front.result in
    let found = c.in-Some-Count.ensures.lookup in
    let count = c.counted-count.result in
    let told = counted-given c.args.stages.now front c.in-Some-Count.field-0.now
    (selected c.args.store.now.records c.args.chosen.now) found.3.0 found.1 (ap is_count c.in-Some-Count.field-0-is)
    c.rowwise_len-front.ensures.front in
    let few : to_z w64 count ≡ pos count = to_z_pos w64 count (omega (arith, c.counted-count.ensures.few)) in
    ap value.Int (few ∙ ap pos c.counted-count.ensures.count) ∙ sym told
