use Rattle.std.proofs.Common.{◌∙◌}
use Rattle.dp_rowwise.proofs.Places.{place_in-found, place_in-missing}
use Rattle.dp_rowwise.proofs.table.Table.number.Goals as goal

pub returns-in-Some-clause-place : goal.returns-in-Some-clause-place
returns-in-Some-clause-place c = rw (← c.self.view_is) (place_in-found (λ text. text.items) c.self.inside.texts.keys c.args.text.now c.in-Some.place c.in-Some.ensures.index)

pub returns-in-None-clause-place : goal.returns-in-None-clause-place
returns-in-None-clause-place c = rw (← c.self.view_is) (c.len.ensures.len ∙ place_in-missing (λ text. text.items) c.self.inside.texts.keys c.args.text.now c.in-None.ensures.index)
