use Rattle.std.proofs.Common.{◌≡◌, map, drop}
use Rattle.dp_group.proofs.EachRelease.{LeadsOn}
use Rattle.dp_group.proofs.grouped.release_each.Given as goal

abbrev pub invariant-loop-input : goal.invariant-loop-input
invariant-loop-input g l = record {
  leads : LeadsOn g.D.Draws.step (g.M.Measurement.mechanism l.inner) (map g.I.ReleaseInput.stands_for l.inputs)
      (map g.I.ReleaseInput.stands_for (drop l.input-index l.inputs)) l.answer.items
      (g.D.Draws.state l.initial.draws) (g.D.Draws.state l.draws);
  still : g.D.Draws.faults l.draws ≡ g.D.Draws.faults l.initial.draws;
}
