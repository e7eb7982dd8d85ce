use Rattle.std.proofs.Common.{length, sym, ap, ◌∙◌}
use Rattle.dp_domain.specs.declared.domains.Domain.{Domain}
use Rattle.dp_geometric.specs.Geometric.{noise_shape}
use Rattle.dp_geometric.specs.GeometricProof.{length-cells}
use Rattle.dp_geometric.specs.Parts.{cell_of}
use Rattle.dp_geometric.proofs.geometric.GeometricMeasurement.draws.Goals as goal

pub returns-in-IntVec : goal.returns-in-IntVec
returns-in-IntVec c =
    let cell = cell_of c.args.self.now.cell in
    let same = ap (λ (input : Domain). noise_shape input cell) c.in-IntVec.is in
    rw (c.from.ensures, c.cell_draws.ensures.value) (sym (ap length same ∙ length-cells c.in-IntVec.len cell))
