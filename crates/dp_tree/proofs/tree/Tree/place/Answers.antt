use Rattle.std.proofs.Common.{◌≡◌, length, sym, ◌∙◌, ap, arith, subst}
use Rattle.dp_tree.specs.Table.{TreeValue, row_of, place_of}
use Rattle.dp_tree.proofs.Kept.{Keeps, absent, none-is-not-some, keeps-place, keeps-many}
use Rattle.dp_tree.proofs.tree.Tree.place.Goals as goal

pub unreachable-requires : goal.unreachable-requires
unreachable-requires c =
    let lists = c.self.inside in
    let keeps : Keeps c.args.self.now lists.numbers.items lists.trail.links lists.states.items
    = record { rows = ap (λ (t : TreeValue). t.rows) (sym c.self.view_is); hold = c.self.invariant } in
    let nowhere : place_of lists.numbers.items c.args.node ≡ length lists.numbers.items
    = subst (λ names. place_of names c.args.node ≡ length names) c.as_slice.ensures c.in_default.ensures in
    let none = absent c.args.self.now lists.numbers.items lists.trail.links lists.states.items c.args.node keeps nowhere in
    none-is-not-some (row_of c.args.self.now c.args.node) none c.requires

pub returns-clause-place : goal.returns-clause-place
returns-clause-place c =
    let lists = c.self.inside in
    let keeps : Keeps c.args.self.now lists.numbers.items lists.trail.links lists.states.items
    = record { rows = ap (λ (t : TreeValue). t.rows) (sym c.self.view_is); hold = c.self.invariant } in
    let found : c.in-Some.at ≡ place_of lists.numbers.items c.args.node
    = subst (λ names. c.in-Some.at ≡ place_of names c.args.node) c.as_slice.ensures c.in-Some.ensures.0 in
    found ∙ sym (keeps-place c.args.self.now lists.numbers.items lists.trail.links lists.states.items c.args.node keeps)

pub returns-clause-within : goal.returns-clause-within
returns-clause-within c =
    let lists = c.self.inside in
    let keeps : Keeps c.args.self.now lists.numbers.items lists.trail.links lists.states.items
    = record { rows = ap (λ (t : TreeValue). t.rows) (sym c.self.view_is); hold = c.self.invariant } in
    let many = keeps-many c.args.self.now lists.numbers.items lists.trail.links lists.states.items keeps in
    let same = ap length c.as_slice.ensures in
    let found = c.in-Some.ensures.0 in
    let within = c.in-Some.ensures.1 in
    omega (arith, found, within, same, many)
