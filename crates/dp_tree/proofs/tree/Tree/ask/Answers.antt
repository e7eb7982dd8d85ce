use Rattle.std.proofs.Common.{sym, ◌∙◌, ap, arith, subst, Ok, Err, ◌∷◌}
use Rattle.dp_tree.specs.Table.{TreeValue}
use Rattle.dp_tree.proofs.Kept.{Keeps, fault-some, hold-states, hold-links, keeps-many}
use Rattle.dp_tree.proofs.Changes.{at-place, charge-told, asked-is, asked-holds}
use Rattle.dp_tree.specs.History.{Ask}
use Rattle.dp_tree.specs.Standing.{Stands}
use Rattle.dp_tree.proofs.Walks.{over-is}
use Rattle.dp_tree.proofs.Standing.{ask-stands}
use Rattle.dp_tree.proofs.tree.Tree.ask.Goals as goal

pub place-at-requires : goal.place-at-requires
place-at-requires c = fault-some c.args.self.now c.args.node c.requires.found

pub charge-requires-clause-place : goal.charge-requires-clause-place
charge-requires-clause-place c =
    let lists = c.self.inside in
    let keeps : Keeps c.args.self.now lists.numbers.items lists.trail.links lists.states.items
    = record { rows = ap (λ (t : TreeValue). t.rows) (sym c.self.view_is); hold = c.self.invariant } in
    let many = keeps-many c.args.self.now lists.numbers.items lists.trail.links lists.states.items keeps in
    let states = hold-states lists.numbers.items lists.trail.links lists.states.items c.self.invariant in
    let within = c.place-at.ensures.within in
    omega (arith, many, states, within)

pub put-requires : goal.put-requires
put-requires c =
    let lists = c.self.inside in
    let keeps : Keeps c.args.self.now lists.numbers.items lists.trail.links lists.states.items
    = record { rows = ap (λ (t : TreeValue). t.rows) (sym c.self.view_is); hold = c.self.invariant } in
    let many = keeps-many c.args.self.now lists.numbers.items lists.trail.links lists.states.items keeps in
    let links = hold-links lists.numbers.items lists.trail.links lists.states.items c.self.invariant in
    let within = c.place-at.ensures.within in
    omega (arith, many, links, within)

pub returns-in-Err-clause-refused : goal.returns-in-Err-clause-refused
returns-in-Err-clause-refused c =
    let lists = c.self.inside in
    let keeps : Keeps c.args.self.now lists.numbers.items lists.trail.links lists.states.items
    = record { rows = ap (λ (t : TreeValue). t.rows) (sym c.self.view_is); hold = c.self.invariant } in
    let at = at-place c.args.self.now lists.numbers.items lists.trail.links lists.states.items c.args.node c.place-at.result keeps c.place-at.ensures.place c.place-at.ensures.within in
    charge-told c.args.self.now lists.numbers.items lists.trail.links lists.states.items c.args.node c.place-at.result c.args.cost (Err c.in-Err.over) at (c.in-Err.ensures.charged at.state at.at_state).0

pub returns-in-Err-clause-verdict : goal.returns-in-Err-clause-verdict
returns-in-Err-clause-verdict c = λ root past s. returns-in-Err-clause-refused c ∙ over-is root past c.args.self.now c.args.node c.args.cost s

pub invariant_of-self-2 : goal.invariant_of-self-2
invariant_of-self-2 c =
    let lists = c.self.inside in
    let keeps : Keeps c.args.self.now lists.numbers.items lists.trail.links lists.states.items
    = record { rows = ap (λ (t : TreeValue). t.rows) (sym c.self.view_is); hold = c.self.invariant } in
    let at = at-place c.args.self.now lists.numbers.items lists.trail.links lists.states.items c.args.node c.place-at.result keeps c.place-at.ensures.place c.place-at.ensures.within in
    asked-holds c.args.self.now lists.numbers.items lists.trail c.put.new.self lists.states c.charge.new.states c.args.node c.place-at.result c.args.query c.args.cost keeps at c.requires.next (c.put.ensures.put at.link at.at_link) (c.in_default.ensures.charged at.state at.at_state).1

pub returns-clause-refused : goal.returns-clause-refused
returns-clause-refused c =
    let lists = c.self.inside in
    let keeps : Keeps c.args.self.now lists.numbers.items lists.trail.links lists.states.items
    = record { rows = ap (λ (t : TreeValue). t.rows) (sym c.self.view_is); hold = c.self.invariant } in
    let at = at-place c.args.self.now lists.numbers.items lists.trail.links lists.states.items c.args.node c.place-at.result keeps c.place-at.ensures.place c.place-at.ensures.within in
    charge-told c.args.self.now lists.numbers.items lists.trail.links lists.states.items c.args.node c.place-at.result c.args.cost (Ok c.in_default.field-0) at (c.in_default.ensures.charged at.state at.at_state).0

pub returns-clause-verdict : goal.returns-clause-verdict
returns-clause-verdict c = λ root past s. returns-clause-refused c ∙ over-is root past c.args.self.now c.args.node c.args.cost s

pub returns-clause-admitted : goal.returns-clause-admitted
returns-clause-admitted c =
    let lists = c.self.inside in
    let keeps : Keeps c.args.self.now lists.numbers.items lists.trail.links lists.states.items
    = record { rows = ap (λ (t : TreeValue). t.rows) (sym c.self.view_is); hold = c.self.invariant } in
    let at = at-place c.args.self.now lists.numbers.items lists.trail.links lists.states.items c.args.node c.place-at.result keeps c.place-at.ensures.place c.place-at.ensures.within in
    asked-is c.args.self.now lists.numbers.items lists.numbers.spare lists.trail c.put.new.self lists.states c.charge.new.states lists.siblings_open c.args.node c.place-at.result c.args.query c.args.cost keeps at
    (ap (λ (t : TreeValue). t.spare) (sym c.self.view_is)) (ap (λ (t : TreeValue). t.siblings_open) (sym c.self.view_is))
    (c.put.ensures.put at.link at.at_link) (c.in_default.ensures.charged at.state at.at_state).1

pub returns-clause-stands : goal.returns-clause-stands
returns-clause-stands c =
    let lists = c.self.inside in
    let keeps : Keeps c.args.self.now lists.numbers.items lists.trail.links lists.states.items
    = record { rows = ap (λ (t : TreeValue). t.rows) (sym c.self.view_is); hold = c.self.invariant } in
    let at = at-place c.args.self.now lists.numbers.items lists.trail.links lists.states.items c.args.node c.place-at.result keeps c.place-at.ensures.place c.place-at.ensures.within in
    λ root past s later.
    subst (Stands root (Ask c.args.query c.args.node c.args.cost ∷ past)) (sym (returns-clause-admitted c))
    (ask-stands root past c.args.self.now c.args.node c.args.query c.args.cost at.row s later at.found (sym (returns-clause-refused c)))
