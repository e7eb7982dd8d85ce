use Rattle.std.proofs.Common.{◌≡◌, [], ℕ, ap, ◌∙◌, get_or}
use Rattle.std.proofs.lemmas.List.{get_or_default}
use Rattle.dp_domain.specs.Users.{cell}
use Rattle.dp_rowwise.specs.Categories.{place_in}
use Rattle.dp_rowwise.specs.Parts.{category_texts}
use Rattle.dp_group.proofs.groups.place_of.Goals as goal

pub returns : goal.returns
returns c =
    let cells = c.args.cells.now in
    let at : c.at.result.now ≡ get_or cells c.args.column c.at.result.now =
    c.at.ensures.value ∙ ap (λ (k : ℕ). get_or cells k c.at.result.now) c.from.ensures in
    let text : c.as_slice.result.now ≡ cell c.args.column cells =
    c.as_slice.ensures ∙ at ∙ get_or_default cells c.args.column c.at.result.now [] c.requires in
    c.number.ensures.value ∙ ap (place_in (category_texts c.args.texts.now)) text
