use Rattle.std.proofs.Common.{◌≡◌, ◌∷◌, ◌++◌, [], ◌<◌, ◌^◌, ◌+◌, take, length, replicate, List, ℕ, ap, sym, subst, ◌∙◌, arith}
use Rattle.std.specs.List.{All}
use Rattle.std.proofs.lemmas.List.{take_more, length-take}
use Rattle.dp_domain.specs.Users.{cell}
use Rattle.dp_rowwise.specs.Categories.{place_in}
use Rattle.dp_rowwise.specs.Parts.{category_texts}
use Rattle.dp_rowwise.specs.Truncate.{record_at}
use Rattle.dp_rowwise.proofs.OneMore.{groups-none, parts-short, grew}
use Rattle.dp_store.proofs.groups.numbers_by_text.Goals as goal

pub loop-k-init : goal.loop-k-init
loop-k-init c =
    c.in_ok-lists.ensures ∙ ap (λ n. replicate {A = List ℕ} n []) c.len.ensures.len
    ∙ groups-none (category_texts c.args.texts.now)

-- the text of the record of a number
abbrev text_of : List (List (List ℕ)) → ℕ → ℕ → List ℕ
text_of rows column number = cell column (record_at rows number)

pub put-requires : goal.put-requires
put-requires c =
    let key = text_of c.args.store.now.records c.args.column in
    let xs = take c.loop-k.k c.args.base.now in
    let few : length xs < 2 ^ 32 =
    omega (arith, c.requires.base.0, length-take c.loop-k.k c.args.base.now) in
    let short = parts-short key xs (category_texts c.args.texts.now) (2 ^ 32) few in
    subst (λ (lists : List (List ℕ)). All (λ l. length l < 2 ^ 32) lists) (sym c.loop-k.invariant) short

pub loop-k-preserved : goal.loop-k-preserved
loop-k-preserved c =
    let base = c.args.base.now in
    let i = c.loop-k.k in
    let number = c.at-number.result in
    let texts = category_texts c.args.texts.now in
    let key = text_of c.args.store.now.records c.args.column in
    let more : take (i + 1) base ≡ take i base ++ number ∷ [] =
    take_more base i 0 (rw c.len-k-end.ensures at c.loop-k-test.true) ∙ ap (λ y. take i base ++ y ∷ []) (sym c.at-number.ensures) in
    let place : c.number-place.result ≡ place_in texts (key number) =
    c.number-place.ensures.value ∙ ap (place_in texts) c.cell.ensures in
    grew key base i number texts c.loop-k.lists.items c.put.new.lists.items c.number-place.result c.args.texts.now.different more place
    c.loop-k.invariant c.in_ok-put.ensures
