use Rattle.std.proofs.Common.{◌≡◌, ◌≤◌, ◌+◌, length, Some, sym, ◌∙◌, ap, arith, subst, true, false, slice_get}
use Rattle.std.specs.Result.{result_err}
use Rattle.dp_tree.specs.Lists.{frozen_from}
use Rattle.dp_tree.specs.Table.{TreeValue, row_of, place_of}
use Rattle.dp_tree.proofs.Kept.{Keeps, placed, if-some, state-of, level-le, root-level, fault-none, fault-open, fault-frozen}
use Rattle.dp_tree.proofs.Walks.{find-is}
use Rattle.dp_tree.proofs.tree.Tree.find.Goals as goal

pub returns-in_default-clause-told : goal.returns-in_default-clause-told
returns-in_default-clause-told g c =
    let lists = c.self.inside in
    let keeps : Keeps c.args.self.now lists.numbers.items lists.trail.links lists.states.items
    = record { rows = ap (λ (t : TreeValue). t.rows) (sym c.self.view_is); hold = c.self.invariant } in
    let nowhere : place_of lists.numbers.items c.args.node ≡ length lists.numbers.items
    = subst (λ names. place_of names c.args.node ≡ length names) c.as_slice.ensures c.in_default.ensures in
    sym (fault-none c.args.self.now lists.numbers.items lists.trail.links lists.states.items c.args.node keeps nowhere)

pub returns-in_default-clause-verdict : goal.returns-in_default-clause-verdict
returns-in_default-clause-verdict g c = λ root past s. returns-in_default-clause-told g c ∙ find-is root past c.args.self.now c.args.node s

pub returns-then-self-clause-told : goal.returns-then-self-clause-told
returns-then-self-clause-told g c =
    let lists = c.self.inside in
    let keeps : Keeps c.args.self.now lists.numbers.items lists.trail.links lists.states.items
    = record { rows = ap (λ (t : TreeValue). t.rows) (sym c.self.view_is); hold = c.self.invariant } in
    let same = ap length c.as_slice.ensures in
    let found : c.in-Some.at ≡ place_of lists.numbers.items c.args.node
    = subst (λ names. c.in-Some.at ≡ place_of names c.args.node) c.as_slice.ensures c.in-Some.ensures.0 in
    let before = c.in-Some.ensures.0 in
    let within = c.in-Some.ensures.1 in
    let is_open : c.args.self.now.siblings_open ≡ true = ap (λ (t : TreeValue). t.siblings_open) (sym c.self.view_is) ∙ c.if-self.true in
    sym (fault-open c.args.self.now lists.numbers.items lists.trail.links lists.states.items c.args.node c.in-Some.at keeps found (omega (arith, same, before, within)) is_open)

pub returns-then-self-clause-verdict : goal.returns-then-self-clause-verdict
returns-then-self-clause-verdict g c = λ root past s. returns-then-self-clause-told g c ∙ find-is root past c.args.self.now c.args.node s

pub returns-clause-told : goal.returns-clause-told
returns-clause-told g c =
    let lists = c.self.inside in
    let keeps : Keeps c.args.self.now lists.numbers.items lists.trail.links lists.states.items
    = record { rows = ap (λ (t : TreeValue). t.rows) (sym c.self.view_is); hold = c.self.invariant } in
    let same = ap length c.as_slice.ensures in
    let found : c.in-Some.at ≡ place_of lists.numbers.items c.args.node
    = subst (λ names. c.in-Some.at ≡ place_of names c.args.node) c.as_slice.ensures c.in-Some.ensures.0 in
    let before = c.in-Some.ensures.0 in
    let within = c.in-Some.ensures.1 in
    let closed : c.args.self.now.siblings_open ≡ false = ap (λ (t : TreeValue). t.siblings_open) (sym c.self.view_is) ∙ c.if-self.false in
    let item : slice_get lists.states.items c.in-Some.at ≡ Some c.at.result.now
    = subst (λ k. slice_get lists.states.items k ≡ Some c.at.result.now) c.from.ensures c.at.ensures.item in
    let by-table = fault-frozen c.args.self.now lists.numbers.items lists.trail.links lists.states.items c.args.node c.in-Some.at c.at.result.now keeps found (omega (arith, same, before, within)) item closed in
    let by-lists : result_err c.nearest_frozen.result ≡ frozen_from lists.numbers.items lists.trail.links c.args.node c.at.result.now.depth c.in-Some.at
    = subst (λ names. result_err c.nearest_frozen.result ≡ frozen_from names lists.trail.links c.args.node c.at.result.now.depth c.in-Some.at) c.as_slice-2.ensures c.nearest_frozen.ensures.told in
    by-lists ∙ sym by-table

pub returns-clause-verdict : goal.returns-clause-verdict
returns-clause-verdict g c = λ root past s. returns-clause-told g c ∙ find-is root past c.args.self.now c.args.node s

pub returns-clause-few : goal.returns-clause-few
returns-clause-few g c =
    let lists = c.self.inside in
    let keeps : Keeps c.args.self.now lists.numbers.items lists.trail.links lists.states.items
    = record { rows = ap (λ (t : TreeValue). t.rows) (sym c.self.view_is); hold = c.self.invariant } in
    let same = ap length c.as_slice.ensures in
    let found : c.in-Some.at ≡ place_of lists.numbers.items c.args.node
    = subst (λ names. c.in-Some.at ≡ place_of names c.args.node) c.as_slice.ensures c.in-Some.ensures.0 in
    let before = c.in-Some.ensures.0 in
    let within = c.in-Some.ensures.1 in
    let item : slice_get lists.states.items c.in-Some.at ≡ Some c.at.result.now
    = subst (λ k. slice_get lists.states.items k ≡ Some c.at.result.now) c.from.ensures c.at.ensures.item in
    let at = placed c.args.self.now lists.numbers.items lists.trail.links lists.states.items c.args.node c.in-Some.at keeps found (omega (arith, same, before, within)) in
    let state = state-of at.row lists.numbers.items lists.trail.links lists.states.items c.in-Some.at c.at.result.now at.parts item in
    let deep = state.depth in
    let steps = c.nearest_frozen.ensures.few in
    if-some (row_of c.args.self.now c.args.node) at.row at.found (λ row. c.nearest_frozen.new.steps ≤ c.args.steps.now + (row.depth + 1)) (omega (arith, deep, steps))

pub returns-clause-at_most : goal.returns-clause-at_most
returns-clause-at_most g c =
    let lists = c.self.inside in
    let low = level-le lists.numbers.items lists.trail.links lists.states.items c.from.result c.at.result.now c.self.invariant c.at.ensures.item in
    let steps = c.nearest_frozen.ensures.few in
    omega (arith, low, steps)

pub returns-clause-root : goal.returns-clause-root
returns-clause-root g c = λ is-root.
    let lists = c.self.inside in
    let found : c.in-Some.at ≡ place_of lists.numbers.items c.args.node
    = subst (λ names. c.in-Some.at ≡ place_of names c.args.node) c.as_slice.ensures c.in-Some.ensures.0 in
    let item : slice_get lists.states.items c.in-Some.at ≡ Some c.at.result.now
    = subst (λ k. slice_get lists.states.items k ≡ Some c.at.result.now) c.from.ensures c.at.ensures.item in
    let low = root-level lists.numbers.items lists.trail.links lists.states.items c.in-Some.at c.at.result.now c.self.invariant (found ∙ ap (place_of lists.numbers.items) is-root) item in
    let steps = c.nearest_frozen.ensures.few in
    omega (arith, low, steps)
