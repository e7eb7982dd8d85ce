use Rattle.dp_geometric.proofs.LeadingRun.{Forward}
use Rattle.dp_geometric.proofs.runs.leading_run.Given as goal

abbrev pub invariant-loop-turn : goal.invariant-loop-turn
invariant-loop-turn g l = Forward g.D.Draws.step (g.D.Draws.state l.initial.draws) (g.D.Draws.state l.draws) (g.D.Draws.faults l.initial.draws) (g.D.Draws.faults l.draws) l.turns l._turn l.low l.high l.run l.still
