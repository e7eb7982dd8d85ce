use Rattle.std.proofs.Common.{◌≤◌, length, drop}
use Rattle.std.specs.Prelude.{vec_capacity}
use Rattle.dp_geometric.specs.Parts.{cell_of}
use Rattle.dp_geometric.proofs.VectorSteps.{VectorForward}
use Rattle.dp_geometric.proofs.geometric.step_each.Given as goal

abbrev pub invariant-loop-number : goal.invariant-loop-number
invariant-loop-number g l =
    VectorForward g.D.Draws.step (g.D.Draws.state l.initial.draws) (g.D.Draws.state l.draws) (g.D.Draws.faults l.initial.draws) (g.D.Draws.faults l.draws) (cell_of l.cell) l.numbers (drop l.number-index l.numbers) l.given.items
    × (length l.given.items ≤ l.number-index) × (length l.numbers ≤ vec_capacity l.given)
