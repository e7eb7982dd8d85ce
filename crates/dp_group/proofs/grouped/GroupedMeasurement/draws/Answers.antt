use Rattle.std.proofs.Common.{length, ap, ◌*◌}
use Rattle.dp_rowwise.specs.Parts.{category_texts}
use Rattle.dp_count.proofs.Repeats.{length-repeat}
use Rattle.dp_group.proofs.grouped.GroupedMeasurement.draws.Goals as goal

pub returns : goal.returns
returns g c =
    let m = g.M.Measurement.mechanism c.args.self.now.inner in
    rw (length-repeat (length (category_texts c.args.self.now.texts)) m.shape, ← c.draws.ensures, ← c.len.ensures.len)
    (ap (λ n. n * c.draws.result) c.from.ensures)
