use Rattle.std.proofs.Common.{refl}
use Rattle.dp_rowwise.specs.Parts.{category_texts}
use Rattle.dp_group.specs.Grouped.{are_group_texts}
use Rattle.dp_group.proofs.GroupTexts.{table-made}
use Rattle.dp_group.proofs.groups.table_of.Goals as goal

pub returns : goal.returns
returns c =
    let texts = c.args.texts in
    table-made _ category_texts (λ t. refl) texts (are_group_texts texts) refl c.new.result c.new.ensures
