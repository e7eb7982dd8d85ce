use Rattle.std.proofs.Common.{sym, arith}
use Rattle.dp_chain.specs.PartMeanings.{part_mechanism}
use Rattle.dp_chain.proofs.ReleaseSteps.{pieces-none, pieces-first}
use Rattle.dp_chain.proofs.release.+all_pieces.Goals as goal

pub returns-in_default : goal.returns-in_default
returns-in_default t c = sym (pieces-none part_mechanism c.args.parts.now c.in_default.ensures.cases)

pub all_pieces-requires : goal.all_pieces-requires
all_pieces-requires t c =
    let whole = pieces-first part_mechanism c.args.parts.now c.in-Some.first.now c.in-Some.rest.now c.in-Some.ensures.cases.0 in
    let shorter = c.in-Some.ensures.cases.1 in
    (omega arith, omega arith)

pub overflow_add-result : goal.overflow_add-result
overflow_add-result t c =
    let whole = pieces-first part_mechanism c.args.parts.now c.in-Some.first.now c.in-Some.rest.now c.in-Some.ensures.cases.0 in
    let one = c.pieces.ensures in
    let others = c.all_pieces.ensures in
    let few = c.requires in
    omega arith

pub returns : goal.returns
returns t c =
    let whole = pieces-first part_mechanism c.args.parts.now c.in-Some.first.now c.in-Some.rest.now c.in-Some.ensures.cases.0 in
    let one = c.pieces.ensures in
    let others = c.all_pieces.ensures in
    omega arith
