use Rattle.std.proofs.Common.{sym, ◌∙◌, ap}
use Rattle.std.specs.Prelude.{not}
use Rattle.dp_domain.specs.Distance.{text_eq}
use Rattle.dp_rowwise.proofs.Places.{list_any-map}
use Rattle.dp_rowwise.proofs.table.Table.add.Goals as goal

pub returns-clause-fresh : goal.returns-clause-fresh
returns-clause-fresh c = rw (← c.self.view_is) (c.in-Ok.ensures.added ∙ ap not (sym (list_any-map (text_eq c.args.text.items) (λ text. text.items) c.self.inside.texts.keys)))
