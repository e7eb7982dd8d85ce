use Rattle.std.proofs.Common.{map, ap, ◌∙◌, ◌≡◌}
use Rattle.std.proofs.lemmas.Result.{IfOk-weaker}
use Rattle.dp_domain.specs.Distance.{text_eq}
use Rattle.dp_domain.specs.Users.{cell, group}
use Rattle.dp_domain.specs.declared.values.Value.TheVariants as value
use Rattle.dp_rowwise.specs.Parts.{category_texts}
use Rattle.dp_group.specs.Grouped.{groups_of}
use Rattle.dp_group.proofs.GroupInputs.{map-twice}
use Rattle.dp_group.proofs.groups.groups_of.Goals as goal

pub returns : goal.returns
returns c =
    let rows = c.args.rows.now in
    let texts = category_texts c.args.texts.now in
    IfOk-weaker c.values_of.result (λ values. values.items ≡ map value.Rows c.in_ok-groups.groups.items)
    (λ values. values.items ≡ groups_of c.args.column texts (value.Rows rows))
    (λ values is.
    is ∙ ap (map value.Rows) c.in_ok-groups.ensures
    ∙ map-twice (λ text. group text_eq (cell c.args.column) text rows) value.Rows texts) c.values_of.ensures
