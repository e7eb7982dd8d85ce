use Rattle.std.proofs.Common.{length, arith}
use Rattle.csv.proofs.RecordFacts.{field-bounds}
use Rattle.dp_records.proofs.PackedPlaces.{text-is}
use Rattle.dp_records.proofs.packed.text_at.Goals as goal

pub slice_bounds-result-count : goal.slice_bounds-result-count
slice_bounds-result-count c =
    let bounds = field-bounds 0 c.args.ends.now (length c.args.bytes.now) c.args.k c.requires.rising c.requires.within in
    rw c.start_of-start.ensures bounds.0

pub slice_bounds-result-start : goal.slice_bounds-result-start
slice_bounds-result-start c =
    let bounds = field-bounds 0 c.args.ends.now (length c.args.bytes.now) c.args.k c.requires.rising c.requires.within in
    omega (arith, c.start_of-start.ensures, bounds.0, bounds.1)

pub slice_bounds-result-end : goal.slice_bounds-result-end
slice_bounds-result-end c =
    let bounds = field-bounds 0 c.args.ends.now (length c.args.bytes.now) c.args.k c.requires.rising c.requires.within in
    omega (arith, c.start_of-start.ensures, bounds.0, bounds.1)

pub returns : goal.returns
returns c = rw c.start_of-start.ensures (text-is c.args.ends.now c.args.bytes.now c.args.k c.requires.within)
