use Rattle.std.proofs.Common.{w64}
use mir.Val.{SFits}
use Rattle.dp_choice.specs.Parts.{numbers_of}
use Rattle.dp_choice.proofs.Tables.{scored}
use Rattle.dp_choice.proofs.choice.Choice.score.Goals as goal

pub returns-clause-value : goal.returns-clause-value
returns-clause-value c =
    let fits : SFits w64 c.nearest.result = record { sfits = c.nearest.type_inv } in
    scored (numbers_of c.args.self.now) c.args.cell c.nearest.result _ c.ranges.cell fits c.above.ensures.value c.nearest.ensures.value
