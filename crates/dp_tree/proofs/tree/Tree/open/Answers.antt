use Rattle.std.proofs.Common.{◌≡◌, ◌+◌, ◌-◌, Some, None, sym, ◌∙◌, ap, arith, subst, slice_get, Ok, Err, [], ◌∷◌, ◌++◌}
use Rattle.dp_num.specs.Trail.{TrailValue, pushed, with_link, with_last}
use Rattle.dp_num.specs.Reserved.{ReservedValue, with_item}
use Rattle.dp_tree.specs.declared.states.NodeState.{NodeState}
use Rattle.dp_tree.specs.History.{Open, given, total, declared_or_zero}
use Rattle.dp_tree.specs.Table.{TreeValue, over_in}
use Rattle.dp_tree.specs.Lists.{charged_state}
use Rattle.dp_tree.specs.Standing.{Stands}
use Rattle.dp_tree.proofs.Kept.{Keeps, fault-some, hold-states, hold-links, keeps-many, level-le, few-names}
use Rattle.dp_tree.proofs.Changes.{at-place, charge-told, names-below}
use Rattle.dp_tree.proofs.Walks.{seat-is}
use Rattle.dp_tree.proofs.Standing.{open-stands}
use Rattle.dp_tree.proofs.Opening.{Opens, Opened, opened-holds, opened-is, seat-depth, seat-distance, seat-budget}
use Rattle.dp_tree.proofs.tree.Tree.open.Goals as goal

state-depth : (a b : NodeState) → Some a ≡ Some b → a.depth ≡ b.depth
state-depth a b e = cc

pub place-at-requires : goal.place-at-requires
place-at-requires c = fault-some c.args.self.now c.args.node c.requires.found

pub at-requires : goal.at-requires
at-requires c =
    let lists = c.self.inside in
    let keeps : Keeps c.args.self.now lists.numbers.items lists.trail.links lists.states.items
    = record { rows = ap (λ (t : TreeValue). t.rows) (sym c.self.view_is); hold = c.self.invariant } in
    let many = keeps-many c.args.self.now lists.numbers.items lists.trail.links lists.states.items keeps in
    let states = hold-states lists.numbers.items lists.trail.links lists.states.items c.self.invariant in
    let links = hold-links lists.numbers.items lists.trail.links lists.states.items c.self.invariant in
    let within = c.place-at.ensures.within in
    let same = c.from.ensures in
    omega (arith, many, states, within, same)

pub returns-then-depth-eq-MOST_DEPTH-clause-refused : goal.returns-then-depth-eq-MOST_DEPTH-clause-refused
returns-then-depth-eq-MOST_DEPTH-clause-refused c =
    let lists = c.self.inside in
    let keeps : Keeps c.args.self.now lists.numbers.items lists.trail.links lists.states.items
    = record { rows = ap (λ (t : TreeValue). t.rows) (sym c.self.view_is); hold = c.self.invariant } in
    let at = at-place c.args.self.now lists.numbers.items lists.trail.links lists.states.items c.args.node c.place-at.result keeps c.place-at.ensures.place c.place-at.ensures.within in
    let item : slice_get lists.states.items c.place-at.result ≡ Some c.at.result.now
    = subst (λ k. slice_get lists.states.items k ≡ Some c.at.result.now) c.from.ensures c.at.ensures.item in
    let same : at.state.depth ≡ c.at.result.now.depth = state-depth at.state c.at.result.now (sym at.at_state ∙ item) in
    seat-depth c.args.self.now c.args.node c.args.distance c.args.mapped c.args.budget.rule at.row at.found (at.depth ∙ same ∙ c.if-depth-eq-MOST_DEPTH.true)

pub returns-then-depth-eq-MOST_DEPTH-clause-verdict : goal.returns-then-depth-eq-MOST_DEPTH-clause-verdict
returns-then-depth-eq-MOST_DEPTH-clause-verdict c = λ root past s. returns-then-depth-eq-MOST_DEPTH-clause-refused c ∙ seat-is root past c.args.self.now c.args.node c.args.distance c.args.mapped c.args.budget.rule s

pub returns-then-distance-mapped-clause-refused : goal.returns-then-distance-mapped-clause-refused
returns-then-distance-mapped-clause-refused c =
    let lists = c.self.inside in
    let keeps : Keeps c.args.self.now lists.numbers.items lists.trail.links lists.states.items
    = record { rows = ap (λ (t : TreeValue). t.rows) (sym c.self.view_is); hold = c.self.invariant } in
    let at = at-place c.args.self.now lists.numbers.items lists.trail.links lists.states.items c.args.node c.place-at.result keeps c.place-at.ensures.place c.place-at.ensures.within in
    let item : slice_get lists.states.items c.place-at.result ≡ Some c.at.result.now
    = subst (λ k. slice_get lists.states.items k ≡ Some c.at.result.now) c.from.ensures c.at.ensures.item in
    let same : at.state.depth ≡ c.at.result.now.depth = state-depth at.state c.at.result.now (sym at.at_state ∙ item) in
    seat-distance c.args.self.now c.args.node c.args.distance c.args.mapped c.args.budget.rule at.row at.found (λ e. c.if-depth-eq-MOST_DEPTH.false (sym same ∙ sym at.depth ∙ e)) c.if-distance-mapped.true

pub returns-then-distance-mapped-clause-verdict : goal.returns-then-distance-mapped-clause-verdict
returns-then-distance-mapped-clause-verdict c = λ root past s. returns-then-distance-mapped-clause-refused c ∙ seat-is root past c.args.self.now c.args.node c.args.distance c.args.mapped c.args.budget.rule s

pub charge-requires-clause-place : goal.charge-requires-clause-place
charge-requires-clause-place c =
    let lists = c.self.inside in
    let keeps : Keeps c.args.self.now lists.numbers.items lists.trail.links lists.states.items
    = record { rows = ap (λ (t : TreeValue). t.rows) (sym c.self.view_is); hold = c.self.invariant } in
    let many = keeps-many c.args.self.now lists.numbers.items lists.trail.links lists.states.items keeps in
    let states = hold-states lists.numbers.items lists.trail.links lists.states.items c.self.invariant in
    let links = hold-links lists.numbers.items lists.trail.links lists.states.items c.self.invariant in
    let within = c.place-at.ensures.within in
    omega (arith, many, states, within)

pub returns-in-Err-clause-refused : goal.returns-in-Err-clause-refused
returns-in-Err-clause-refused c =
    let lists = c.self.inside in
    let keeps : Keeps c.args.self.now lists.numbers.items lists.trail.links lists.states.items
    = record { rows = ap (λ (t : TreeValue). t.rows) (sym c.self.view_is); hold = c.self.invariant } in
    let at = at-place c.args.self.now lists.numbers.items lists.trail.links lists.states.items c.args.node c.place-at.result keeps c.place-at.ensures.place c.place-at.ensures.within in
    let item : slice_get lists.states.items c.place-at.result ≡ Some c.at.result.now
    = subst (λ k. slice_get lists.states.items k ≡ Some c.at.result.now) c.from.ensures c.at.ensures.item in
    let same : at.state.depth ≡ c.at.result.now.depth = state-depth at.state c.at.result.now (sym at.at_state ∙ item) in
    let cost : c.in-Some.total ≡ total c.args.budget.rule = ap declared_or_zero c.in-Some.ensures.sum in
    let told = charge-told c.args.self.now lists.numbers.items lists.trail.links lists.states.items c.args.node c.place-at.result c.in-Some.total (Err c.in-Err.over) at (c.in-Err.ensures.charged at.state at.at_state).0 in
    seat-budget c.args.self.now c.args.node c.args.distance c.args.mapped c.args.budget.rule at.row (Some c.in-Err.over) at.found (λ e. c.if-depth-eq-MOST_DEPTH.false (sym same ∙ sym at.depth ∙ e)) c.if-distance-mapped.false (told ∙ ap (over_in c.args.self.now c.args.node) cost)

pub returns-in-Err-clause-verdict : goal.returns-in-Err-clause-verdict
returns-in-Err-clause-verdict c = λ root past s. returns-in-Err-clause-refused c ∙ seat-is root past c.args.self.now c.args.node c.args.distance c.args.mapped c.args.budget.rule s

pub overflow_cast-child : goal.overflow_cast-child
overflow_cast-child c =
    let lists = c.self.inside in
    let keeps : Keeps c.args.self.now lists.numbers.items lists.trail.links lists.states.items
    = record { rows = ap (λ (t : TreeValue). t.rows) (sym c.self.view_is); hold = c.self.invariant } in
    let few = few-names lists.numbers.items lists.trail.links lists.states.items c.args.query c.self.invariant (names-below c.args.self.now lists.numbers.items lists.trail.links lists.states.items c.args.query keeps c.requires.next) in
    let same = c.len-child.ensures in
    let fits = c.ranges.query.fits in
    omega (arith, few, same, fits)

pub put-requires : goal.put-requires
put-requires c =
    let lists = c.self.inside in
    let keeps : Keeps c.args.self.now lists.numbers.items lists.trail.links lists.states.items
    = record { rows = ap (λ (t : TreeValue). t.rows) (sym c.self.view_is); hold = c.self.invariant } in
    let many = keeps-many c.args.self.now lists.numbers.items lists.trail.links lists.states.items keeps in
    let states = hold-states lists.numbers.items lists.trail.links lists.states.items c.self.invariant in
    let links = hold-links lists.numbers.items lists.trail.links lists.states.items c.self.invariant in
    let within = c.place-at.ensures.within in
    omega (arith, many, links, within)

pub push-requires : goal.push-requires
push-requires c =
    let spare = ap (λ (t : TreeValue). t.spare) c.self.view_is in
    let room = c.requires.room in
    omega (arith, spare, room)

pub push-requires-2-clause-room : goal.push-requires-2-clause-room
push-requires-2-clause-room c =
    let lists = c.self.inside in
    let keeps : Keeps c.args.self.now lists.numbers.items lists.trail.links lists.states.items
    = record { rows = ap (λ (t : TreeValue). t.rows) (sym c.self.view_is); hold = c.self.invariant } in
    let at = at-place c.args.self.now lists.numbers.items lists.trail.links lists.states.items c.args.node c.place-at.result keeps c.place-at.ensures.place c.place-at.ensures.within in
    let spare = ap (λ (t : TreeValue). t.spare) c.self.view_is in
    let room = c.requires.room in
    let put : c.put.new.self.spare ≡ lists.trail.spare = ap (λ (x : TrailValue). x.spare) (c.put.ensures.put at.link at.at_link) in
    omega (arith, spare, room, put)

pub push-requires-2-clause-few : goal.push-requires-2-clause-few
push-requires-2-clause-few c =
    let lists = c.self.inside in
    let keeps : Keeps c.args.self.now lists.numbers.items lists.trail.links lists.states.items
    = record { rows = ap (λ (t : TreeValue). t.rows) (sym c.self.view_is); hold = c.self.invariant } in
    let links = hold-links lists.numbers.items lists.trail.links lists.states.items c.self.invariant in
    let few = few-names lists.numbers.items lists.trail.links lists.states.items c.args.query c.self.invariant (names-below c.args.self.now lists.numbers.items lists.trail.links lists.states.items c.args.query keeps c.requires.next) in
    let same = c.put.ensures.as_many in
    let fits = c.ranges.query.fits in
    omega (arith, few, same, fits, links)

pub overflow_add-depth : goal.overflow_add-depth
overflow_add-depth c =
    let lists = c.self.inside in
    let low = level-le lists.numbers.items lists.trail.links lists.states.items c.from.result c.at.result.now c.self.invariant c.at.ensures.item in
    omega (arith, low)

pub push-requires-3 : goal.push-requires-3
push-requires-3 c =
    let lists = c.self.inside in
    let keeps : Keeps c.args.self.now lists.numbers.items lists.trail.links lists.states.items
    = record { rows = ap (λ (t : TreeValue). t.rows) (sym c.self.view_is); hold = c.self.invariant } in
    let at = at-place c.args.self.now lists.numbers.items lists.trail.links lists.states.items c.args.node c.place-at.result keeps c.place-at.ensures.place c.place-at.ensures.within in
    let spare = ap (λ (t : TreeValue). t.spare) c.self.view_is in
    let room = c.requires.room in
    let kept : c.charge.new.states.spare ≡ lists.states.spare = ap (λ (x : ReservedValue NodeState). x.spare) (c.in_default-charge.ensures.charged at.state at.at_state).1 in
    omega (arith, spare, room, kept)

pub invariant_of-self-2 : goal.invariant_of-self-2
invariant_of-self-2 c =
    let lists = c.self.inside in
    let keeps : Keeps c.args.self.now lists.numbers.items lists.trail.links lists.states.items
    = record { rows = ap (λ (t : TreeValue). t.rows) (sym c.self.view_is); hold = c.self.invariant } in
    let at = at-place c.args.self.now lists.numbers.items lists.trail.links lists.states.items c.args.node c.place-at.result keeps c.place-at.ensures.place c.place-at.ensures.within in
    let item : slice_get lists.states.items c.place-at.result ≡ Some c.at.result.now
    = subst (λ k. slice_get lists.states.items k ≡ Some c.at.result.now) c.from.ensures c.at.ensures.item in
    let same : at.state.depth ≡ c.at.result.now.depth = state-depth at.state c.at.result.now (sym at.at_state ∙ item) in
    let new : NodeState = record { depth = c.at.result.now.depth + 1; domain = c.args.domain; metric = c.args.metric; distance = c.args.distance; budget = c.args.budget } in
    let opens : Opens c.args.self.now lists.numbers.items lists.trail.links lists.states.items c.args.node c.place-at.result c.args.query at new
    = record {
      next = c.requires.next;
      low = λ e. c.if-depth-eq-MOST_DEPTH.false (sym same ∙ e);
      deep = ap (λ d. d + 1) (sym same);
      fits = c.requires.fits;
      near = c.requires.near;
      budget = c.requires.fresh;
    } in
    let cost : total c.args.budget.rule ≡ c.in-Some.total = ap declared_or_zero (sym c.in-Some.ensures.sum) in
    let charged = (c.in_default-charge.ensures.charged at.state at.at_state).1 in
    let put = c.put.ensures.put at.link at.at_link in
    let opened : Opened c.args.self.now lists.numbers c.push.new.self lists.trail c.push-2.new.self lists.states c.push-3.new.self c.args.node c.place-at.result c.args.query at new
    = record {
      is_numbers = c.push.ensures;
      is_trail = c.push-2.ensures ∙ ap (λ x. pushed x (record { parent = c.place-at.result; last = 0; live = None })) (put ∙ ap (λ n. with_link lists.trail c.place-at.result (with_last at.link c.args.query (Some n))) c.len-child.ensures);
      is_states = c.push-3.ensures
          ∙ ap (λ (x : ReservedValue NodeState). record { items = x.items ++ new ∷ []; spare = x.spare - 1 }) (charged ∙ ap (λ n. with_item lists.states c.place-at.result (charged_state n at.state)) (sym cost));
    } in
    opened-holds c.args.self.now lists.numbers c.push.new.self lists.trail c.push-2.new.self lists.states c.push-3.new.self c.args.node c.place-at.result c.args.query new keeps at opens opened

pub returns-clause-refused : goal.returns-clause-refused
returns-clause-refused c =
    let lists = c.self.inside in
    let keeps : Keeps c.args.self.now lists.numbers.items lists.trail.links lists.states.items
    = record { rows = ap (λ (t : TreeValue). t.rows) (sym c.self.view_is); hold = c.self.invariant } in
    let at = at-place c.args.self.now lists.numbers.items lists.trail.links lists.states.items c.args.node c.place-at.result keeps c.place-at.ensures.place c.place-at.ensures.within in
    let item : slice_get lists.states.items c.place-at.result ≡ Some c.at.result.now
    = subst (λ k. slice_get lists.states.items k ≡ Some c.at.result.now) c.from.ensures c.at.ensures.item in
    let same : at.state.depth ≡ c.at.result.now.depth = state-depth at.state c.at.result.now (sym at.at_state ∙ item) in
    let cost : c.in-Some.total ≡ total c.args.budget.rule = ap declared_or_zero c.in-Some.ensures.sum in
    let told = charge-told c.args.self.now lists.numbers.items lists.trail.links lists.states.items c.args.node c.place-at.result c.in-Some.total (Ok c.in_default-charge.field-0) at (c.in_default-charge.ensures.charged at.state at.at_state).0 in
    seat-budget c.args.self.now c.args.node c.args.distance c.args.mapped c.args.budget.rule at.row None at.found (λ e. c.if-depth-eq-MOST_DEPTH.false (sym same ∙ sym at.depth ∙ e)) c.if-distance-mapped.false (told ∙ ap (over_in c.args.self.now c.args.node) cost)

pub returns-clause-verdict : goal.returns-clause-verdict
returns-clause-verdict c = λ root past s. returns-clause-refused c ∙ seat-is root past c.args.self.now c.args.node c.args.distance c.args.mapped c.args.budget.rule s

pub returns-clause-opened : goal.returns-clause-opened
returns-clause-opened c =
    let lists = c.self.inside in
    let keeps : Keeps c.args.self.now lists.numbers.items lists.trail.links lists.states.items
    = record { rows = ap (λ (t : TreeValue). t.rows) (sym c.self.view_is); hold = c.self.invariant } in
    let at = at-place c.args.self.now lists.numbers.items lists.trail.links lists.states.items c.args.node c.place-at.result keeps c.place-at.ensures.place c.place-at.ensures.within in
    let item : slice_get lists.states.items c.place-at.result ≡ Some c.at.result.now
    = subst (λ k. slice_get lists.states.items k ≡ Some c.at.result.now) c.from.ensures c.at.ensures.item in
    let same : at.state.depth ≡ c.at.result.now.depth = state-depth at.state c.at.result.now (sym at.at_state ∙ item) in
    let new : NodeState = record { depth = c.at.result.now.depth + 1; domain = c.args.domain; metric = c.args.metric; distance = c.args.distance; budget = c.args.budget } in
    let opens : Opens c.args.self.now lists.numbers.items lists.trail.links lists.states.items c.args.node c.place-at.result c.args.query at new
    = record {
      next = c.requires.next;
      low = λ e. c.if-depth-eq-MOST_DEPTH.false (sym same ∙ e);
      deep = ap (λ d. d + 1) (sym same);
      fits = c.requires.fits;
      near = c.requires.near;
      budget = c.requires.fresh;
    } in
    let cost : total c.args.budget.rule ≡ c.in-Some.total = ap declared_or_zero (sym c.in-Some.ensures.sum) in
    let charged = (c.in_default-charge.ensures.charged at.state at.at_state).1 in
    let put = c.put.ensures.put at.link at.at_link in
    let opened : Opened c.args.self.now lists.numbers c.push.new.self lists.trail c.push-2.new.self lists.states c.push-3.new.self c.args.node c.place-at.result c.args.query at new
    = record {
      is_numbers = c.push.ensures;
      is_trail = c.push-2.ensures ∙ ap (λ x. pushed x (record { parent = c.place-at.result; last = 0; live = None })) (put ∙ ap (λ n. with_link lists.trail c.place-at.result (with_last at.link c.args.query (Some n))) c.len-child.ensures);
      is_states = c.push-3.ensures
          ∙ ap (λ (x : ReservedValue NodeState). record { items = x.items ++ new ∷ []; spare = x.spare - 1 }) (charged ∙ ap (λ n. with_item lists.states c.place-at.result (charged_state n at.state)) (sym cost));
    } in
    opened-is c.args.self.now lists.numbers c.push.new.self lists.trail c.push-2.new.self lists.states c.push-3.new.self lists.siblings_open c.args.node c.place-at.result c.args.query new keeps at opens opened
    (ap (λ (t : TreeValue). t.spare) (sym c.self.view_is)) (ap (λ (t : TreeValue). t.siblings_open) (sym c.self.view_is))

pub returns-clause-stands : goal.returns-clause-stands
returns-clause-stands c =
    let lists = c.self.inside in
    let keeps : Keeps c.args.self.now lists.numbers.items lists.trail.links lists.states.items
    = record { rows = ap (λ (t : TreeValue). t.rows) (sym c.self.view_is); hold = c.self.invariant } in
    let at = at-place c.args.self.now lists.numbers.items lists.trail.links lists.states.items c.args.node c.place-at.result keeps c.place-at.ensures.place c.place-at.ensures.within in
    let cost : c.in-Some.total ≡ total c.args.budget.rule = ap declared_or_zero c.in-Some.ensures.sum in
    let told = charge-told c.args.self.now lists.numbers.items lists.trail.links lists.states.items c.args.node c.place-at.result c.in-Some.total (Ok c.in_default-charge.field-0) at (c.in_default-charge.ensures.charged at.state at.at_state).0 in
    let seat = given c.args.domain c.args.metric c.args.distance c.args.budget in
    λ root past s later.
    subst (Stands root (Open c.args.query c.args.node seat c.args.mapped ∷ past)) (sym (returns-clause-opened c))
    (open-stands root past c.args.self.now c.args.node c.args.query c.args.mapped seat at.row s later at.found (sym (told ∙ ap (over_in c.args.self.now c.args.node) cost)))
