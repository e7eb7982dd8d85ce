use Rattle.std.proofs.Common.{sym, ◌∙◌}
use Rattle.dp_session.proofs.Costs.{cost-le}
use Rattle.dp_session.proofs.judge.cost_at.Goals as goal

pub returns-in-Ok-clause-range : goal.returns-in-Ok-clause-range
returns-in-Ok-clause-range g c =
    cost-le (g.M.Measurement.mechanism c.args.measurement.now) c.args.distance c.in-Ok.cost
    (g.met.M.Measurement.law c.args.measurement.now) (sym c.cost_of.ensures ∙ c.in-Ok.is)
