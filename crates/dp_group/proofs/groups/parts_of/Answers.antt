use Rattle.std.proofs.Common.{◌≡◌, ◌∷◌, ◌++◌, [], ◌<◌, ◌^◌, ◌+◌, take, length, replicate, List, ℕ, ap, sym, subst, ◌∙◌, arith}
use Rattle.std.specs.List.{All}
use Rattle.std.proofs.lemmas.List.{take_more, length-take}
use Rattle.dp_domain.specs.Users.{cell}
use Rattle.dp_rowwise.specs.Parts.{category_texts}
use Rattle.dp_group.specs.GroupedLaw.{Records}
use Rattle.dp_rowwise.proofs.OneMore.{groups-none, parts-short, grew}
use Rattle.dp_group.proofs.groups.parts_of.Goals as goal

pub loop-cells-init : goal.loop-cells-init
loop-cells-init c =
    c.in_ok-groups.ensures ∙ ap (λ n. replicate {A = List (List (List ℕ))} n []) c.len.ensures.len
    ∙ groups-none (category_texts c.args.texts.now)

pub put_copy-requires : goal.put_copy-requires
put_copy-requires c =
    let xs = take c.loop-cells.cells-index c.args.rows.now in
    let few : length xs < 2 ^ 32 =
    omega (arith, c.requires.few, length-take c.loop-cells.cells-index c.args.rows.now) in
    let short = parts-short (cell c.args.column) xs (category_texts c.args.texts.now) (2 ^ 32) few in
    subst (λ (groups : List Records). All (λ group. length group < 2 ^ 32) groups) (sym c.loop-cells.invariant) short

pub loop-cells-preserved : goal.loop-cells-preserved
loop-cells-preserved c =
    let rows = c.args.rows.now in
    let i = c.loop-cells.cells-index in
    let x = c.cells-item.result in
    let texts = category_texts c.args.texts.now in
    let key = cell c.args.column in
    let more : take (i + 1) rows ≡ take i rows ++ x ∷ [] =
    take_more rows i x c.loop-cells-test.true ∙ ap (λ y. take i rows ++ y ∷ []) (sym c.cells-item.is) in
    grew key rows i x texts c.loop-cells.groups.items c.put_copy.new.groups.items c.place_of.result c.requires.different more
    c.place_of.ensures c.loop-cells.invariant c.in_ok-put_copy.ensures
