use Rattle.std.proofs.Common.{length}
use Rattle.std.specs.List.{repeat}
use Rattle.dp_law.proofs.Taking.{takes-nothing}
use Rattle.dp_rowwise.specs.Parts.{category_texts}
use Rattle.dp_group.proofs.GroupInputs.{inputs-have}
use Rattle.dp_group.proofs.grouped.GroupedMeasurement.release.Goals as goal

pub returns-in-Err-clause-released : goal.returns-in-Err-clause-released
returns-in-Err-clause-released g c =
    let t = c.args.self.now in
    let m = g.M.Measurement.mechanism t.inner in
    let shape = repeat (length (category_texts t.texts)) m.shape in
    takes-nothing g.D.Draws.step shape (g.D.Draws.state c.args.draws.now)

pub release_each-requires : goal.release_each-requires
release_each-requires g c =
    let t = c.args.self.now in
    let m = g.M.Measurement.mechanism t.inner in
    let fits = (g.met.M.Measurement.law t.inner).input_fits in
    inputs-have m.input_domain t.column (category_texts t.texts) c.args.v.now c.in-Rows.rows c.as_slice.result.now
    c.in-Ok.groups.items c.as_slice-2.result.now t.takes_column fits c.requires c.in-Rows.is c.as_slice.ensures
    c.as_slice-2.ensures.value c.in-Ok.ensures
