use Rattle.dp_chain.specs.contracts.line.LineTransformation.TheImpl.Laws.{law-law as line_law}
use Rattle.std.proofs.Common.{sym, ◌∙◌, ap}
use Rattle.std.specs.Result.{result_ok}
use Rattle.dp_session.proofs.judge.distance_at.Goals as goal

pub returns-in-Ok-clause-range : goal.returns-in-Ok-clause-range
returns-in-Ok-clause-range c =
    let law = line_law c.args.line.now in
    law.limited c.args.distance c.in-Ok.mapped (sym c.map.ensures ∙ ap result_ok c.in-Ok.is)
