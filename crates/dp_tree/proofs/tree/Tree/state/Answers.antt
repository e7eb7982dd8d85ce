use Rattle.std.proofs.Common.{◌≡◌, Some, sym, ◌∙◌, ap, arith, subst, slice_get}
use Rattle.dp_tree.specs.Table.{TreeValue, row_of}
use Rattle.dp_tree.specs.Lists.{IsStateOf}
use Rattle.dp_tree.proofs.Kept.{Keeps, placed, if-some, state-of, hold-states, keeps-place, keeps-many}
use Rattle.dp_tree.proofs.tree.Tree.state.Goals as goal

pub at-requires : goal.at-requires
at-requires c =
    let lists = c.self.inside in
    let keeps : Keeps c.args.self.now lists.numbers.items lists.trail.links lists.states.items
    = record { rows = ap (λ (t : TreeValue). t.rows) (sym c.self.view_is); hold = c.self.invariant } in
    let many = keeps-many c.args.self.now lists.numbers.items lists.trail.links lists.states.items keeps in
    let states = hold-states lists.numbers.items lists.trail.links lists.states.items c.self.invariant in
    let at = c.place-at.ensures.within in
    let same = c.from.ensures in
    omega (arith, many, states, at, same)

pub returns-clause-row : goal.returns-clause-row
returns-clause-row c =
    let lists = c.self.inside in
    let keeps : Keeps c.args.self.now lists.numbers.items lists.trail.links lists.states.items
    = record { rows = ap (λ (t : TreeValue). t.rows) (sym c.self.view_is); hold = c.self.invariant } in
    let many = keeps-many c.args.self.now lists.numbers.items lists.trail.links lists.states.items keeps in
    let here = keeps-place c.args.self.now lists.numbers.items lists.trail.links lists.states.items c.args.node keeps in
    let within = c.place-at.ensures.within in
    let at = placed c.args.self.now lists.numbers.items lists.trail.links lists.states.items c.args.node c.place-at.result keeps (c.place-at.ensures.place ∙ here) (omega (arith, many, within)) in
    let item : slice_get lists.states.items c.place-at.result ≡ Some c.at.result.now = subst (λ k. slice_get lists.states.items k ≡ Some c.at.result.now) c.from.ensures c.at.ensures.item in
    if-some (row_of c.args.self.now c.args.node) at.row at.found (λ row. IsStateOf row c.at.result.now) (state-of at.row lists.numbers.items lists.trail.links lists.states.items c.place-at.result c.at.result.now at.parts item)

pub returns-clause-fits : goal.returns-clause-fits
returns-clause-fits c = (c.self.invariant.limits c.from.result c.at.result.now c.at.ensures.item).0

pub returns-clause-near : goal.returns-clause-near
returns-clause-near c = (c.self.invariant.limits c.from.result c.at.result.now c.at.ensures.item).1
