use Rattle.std.proofs.Common.{sym, ◌∙◌, map}
use Rattle.dp_chain.specs.PartMeanings.{part_mechanism}
use Rattle.dp_chain.proofs.ReleaseSteps.{loss-none, loss-past, rest-past, losses-add, total-le}
use Rattle.dp_chain.proofs.release.+total_loss.Goals as goal

pub returns-in_default : goal.returns-in_default
returns-in_default t c = sym (loss-none part_mechanism c.args.parts.now c.args.d c.in_default.ensures.cases)

pub returns-in_default-loss : goal.returns-in_default-loss
returns-in_default-loss t c =
    loss-past part_mechanism c.args.parts.now c.in-Some.first.now c.in-Some.rest.now c.args.d c.in-Some.ensures.cases.0 c.in_default-loss.ensures

pub returns-in_default-total_loss : goal.returns-in_default-total_loss
returns-in_default-total_loss t c =
    rest-past part_mechanism c.args.parts.now c.in-Some.first.now c.in-Some.rest.now c.args.d c.in-Ok.front c.in-Some.ensures.cases.0
    c.in-Ok.ensures c.in_default-total_loss.ensures

pub add_units-requires-clause-second : goal.add_units-requires-clause-second
add_units-requires-clause-second t c =
    total-le (map part_mechanism c.in-Some.rest.now) c.args.d c.in-Ok-total_loss.back c.in-Ok-total_loss.ensures

pub returns : goal.returns
returns t c =
    c.add_units.ensures
    ∙ losses-add part_mechanism c.args.parts.now c.in-Some.first.now c.in-Some.rest.now c.args.d c.in-Ok.front c.in-Ok-total_loss.back
    c.in-Some.ensures.cases.0 c.in-Ok.ensures c.in-Ok-total_loss.ensures
