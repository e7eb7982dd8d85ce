use Rattle.std.proofs.Common.{ℕ, ◌<◌, List, pos, get_or, ap, ◌∙◌, arith}
use Rattle.std.specs.Prelude.{nat_eq}
use Rattle.std.proofs.lemmas.Int.{ints}
use Rattle.std.proofs.lemmas.List.{get_or_read, take_all}
use Rattle.std.proofs.lemmas.List.FromFn.{fill_by_all}
use Rattle.dp_domain.specs.Distance.{occurrences}
use Rattle.dp_aggregate.specs.Histogram.{histogram}
use Rattle.dp_aggregate.proofs.Frequency.{occurrences-few, count-more}
use Rattle.dp_aggregate.proofs.histogram.count_each.Goals as goal

pub overflow_add-index_mut : goal.overflow_add-index_mut
overflow_add-index_mut c =
    let xs = c.args.categories.now in
    let i = c.loop-category.category-index in
    let x = get_or xs i 0 in
    let below : x < c.args.n = c.requires.below i 0 (omega arith) in
    let read = get_or_read c.loop-category.cells.items x c.index_mut.result.now (omega (arith, c.loop-category.cells.ok.0)) c.index_mut.ensures.value (pos 0) in
    let here = c.loop-category.invariant.counted x below in
    let few = occurrences-few xs i x in
    omega (arith, ints)

pub loop-category-preserved : goal.loop-category-preserved
loop-category-preserved c =
    let xs = c.args.categories.now in
    let i = c.loop-category.category-index in
    let x = get_or xs i 0 in
    let cells = c.loop-category.cells in
    let below : x < c.args.n = c.requires.below i 0 (omega arith) in
    let read = get_or_read cells.items x c.index_mut.result.now (omega (arith, cells.ok.0)) c.index_mut.ensures.value (pos 0) in
    let here = c.loop-category.invariant.counted x below in
    let few = occurrences-few xs i x in
    record {
      cells = omega arith;
      counted = count-more cells.items xs i c.args.n _ c.loop-category-test.true (omega (arith, cells.ok.0)) below c.loop-category.invariant.counted (omega (arith, ints));
    }

pub returns : goal.returns
unfolding histogram
returns c =
    let xs = c.args.categories.now in
    let whole = take_all c.loop-category.category-index xs c.loop-category-test.false in
    fill_by_all (λ category. pos (occurrences nat_eq xs category)) c.loop-category.cells.items c.args.n (pos 0) (omega (arith, c.loop-category.cells.ok.0))
    (λ k h. c.loop-category.invariant.counted k h ∙ ap (λ (ys : List ℕ). pos (occurrences nat_eq ys k)) whole)
