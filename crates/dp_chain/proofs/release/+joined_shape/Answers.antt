use Rattle.std.proofs.Common.{length, sym, ap, arith, ◌∙◌, ◌++◌}
use Rattle.dp_chain.specs.PartMeanings.{part_mechanism}
use Rattle.dp_chain.proofs.ReleaseSteps.{shape-none, shape-first, draws-first}
use Rattle.dp_chain.proofs.release.+joined_shape.Goals as goal

pub returns-in_default : goal.returns-in_default
returns-in_default t c = c.new.ensures ∙ sym (shape-none part_mechanism c.args.parts.now c.in_default.ensures.cases)

pub joined_shape-requires : goal.joined_shape-requires
joined_shape-requires t c =
    let whole = draws-first part_mechanism c.args.parts.now c.in-Some.first.now c.in-Some.rest.now c.in-Some.ensures.cases.0 in
    let shorter = c.in-Some.ensures.cases.1 in
    (omega arith, omega arith)

pub join-requires : goal.join-requires
join-requires t c =
    let whole = draws-first part_mechanism c.args.parts.now c.in-Some.first.now c.in-Some.rest.now c.in-Some.ensures.cases.0 in
    let one = ap length c.in_ok-shape.ensures in
    let others = ap length c.in_ok-joined_shape.ensures in
    let few = c.requires in
    omega arith

pub returns : goal.returns
returns t c =
    c.in_ok-join.ensures.ok
    ∙ ap (λ s. s ++ c.in_ok-joined_shape.field-0) c.in_ok-shape.ensures
    ∙ ap (λ s. (part_mechanism c.in-Some.first.now).shape ++ s) c.in_ok-joined_shape.ensures
    ∙ sym (shape-first part_mechanism c.args.parts.now c.in-Some.first.now c.in-Some.rest.now c.in-Some.ensures.cases.0)
