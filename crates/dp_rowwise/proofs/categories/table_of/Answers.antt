use Rattle.std.proofs.Common.{◌≡◌, [], ◌∷◌, ◌++◌, refl, sym, ◌∙◌, ap, rules}
use Rattle.std.specs.Prelude.{not}
use Rattle.std.specs.List.{list_any}
use Rattle.std.proofs.lemmas.Iterator.Adapters.{YieldsList-from_vec}
use Rattle.std.proofs.lemmas.Iterator.Consumers.{YieldsList-turn}
use Rattle.dp_domain.specs.Distance.{text_eq}
use Rattle.dp_rowwise.proofs.Places.{are_different-nil, fresh-more, taken-more, not-fresh, chosen}
use Rattle.dp_rowwise.specs.Categories.{are_different}
use Rattle.dp_rowwise.proofs.categories.table_of.Goals as goal

pub loop-text-init : goal.loop-text-init
loop-text-init c = record {
  front = c.new-table.ensures;
  taken = refl;
  different = rw c.new-table.ensures are_different-nil;
}

pub returns-then-not-fresh : goal.returns-then-not-fresh
returns-then-not-fresh c =
    let texts = c.args.texts in
    let turn = YieldsList-turn (YieldsList-from_vec {s = c.into_iter-text-iterator.result} texts (c.into_iter-text-iterator.ensures.into_iter_gives.0 ∙ c.into_vec-text-items.ensures) (search rules)) c.loop-text.yielded c.loop-text.text-iterator c.loop-text.yielded_by c.next.result c.next.new.self c.in-Some.text c.in-Some.is c.next.ensures.steps in
    let told : c.in_ok-fresh.fresh ≡ not (list_any (text_eq c.in-Some.text) c.loop-text.yielded) =
    rw (← c.loop-text.invariant.front, ← c.into_vec.ensures) c.in_ok-fresh.ensures.fresh in
    not-fresh texts c.loop-text.yielded c.in-Some.text c.in_ok-fresh.fresh c.loop-text.invariant.taken turn (ap are_different (sym c.loop-text.invariant.front) ∙ c.loop-text.invariant.different) told c.if-not-fresh.true

pub loop-text-preserved : goal.loop-text-preserved
loop-text-preserved c =
    let texts = c.args.texts in
    let turn = YieldsList-turn (YieldsList-from_vec {s = c.into_iter-text-iterator.result} texts (c.into_iter-text-iterator.ensures.into_iter_gives.0 ∙ c.into_vec-text-items.ensures) (search rules)) c.loop-text.yielded c.loop-text.text-iterator c.loop-text.yielded_by c.next.result c.next.new.self c.in-Some.text c.in-Some.is c.next.ensures.steps in
    let told : c.in_ok-fresh.fresh ≡ not (list_any (text_eq c.in-Some.text) c.loop-text.yielded) =
    rw (← c.loop-text.invariant.front, ← c.into_vec.ensures) c.in_ok-fresh.ensures.fresh in
    let front : c.add.new.self ≡ c.loop-text.yielded ++ c.in-Some.text ∷ [] =
    rw (← c.loop-text.invariant.front, ← c.into_vec.ensures) (chosen c.in_ok-fresh.fresh c.add.new.self (c.loop-text.table ++ c.into_vec.result.items ∷ []) c.loop-text.table c.if-not-fresh.false c.in_ok-fresh.ensures.texts) in
    record {
      front = front;
      taken = taken-more texts c.loop-text.yielded c.in-Some.text c.loop-text.invariant.taken turn;
      different = rw front (fresh-more c.loop-text.yielded c.in-Some.text c.in_ok-fresh.fresh (ap are_different (sym c.loop-text.invariant.front) ∙ c.loop-text.invariant.different) told c.if-not-fresh.false);
    }
