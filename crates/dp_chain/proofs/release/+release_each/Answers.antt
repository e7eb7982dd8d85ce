use Rattle.std.proofs.Common.{arith}
use Rattle.dp_chain.specs.PartMeanings.{part_mechanism}
use Rattle.dp_chain.proofs.ReleaseSteps.{released-none, input-first, first-stops, rest-stops, no-room, all-answer}
use Rattle.dp_chain.proofs.release.+release_each.Goals as goal

pub returns-in_default-clause-released : goal.returns-in_default-clause-released
returns-in_default-clause-released g t c =
    released-none part_mechanism g.D.Draws.step c.args.parts.now (g.I.Input.stands_for c.args.input.now) _ _ c.in_default.ensures.cases c.new.ensures

pub release_part-requires : goal.release_part-requires
release_part-requires g t c =
    (input-first part_mechanism c.args.parts.now c.in-Some.first.now c.in-Some.rest.now (g.I.Input.takes c.args.input.now) c.in-Some.ensures.cases.0 c.requires).0

pub release_each-requires : goal.release_each-requires
release_each-requires g t c =
    let shorter = c.in-Some.ensures.cases.1 in
    λ κs within. (
      omega arith,
      (
        within.0,
        (
          within.1,
          (input-first part_mechanism c.args.parts.now c.in-Some.first.now c.in-Some.rest.now (g.I.Input.takes c.args.input.now) c.in-Some.ensures.cases.0 c.requires).1,
        ),
      ),
    )

pub returns-in-Err-clause-released : goal.returns-in-Err-clause-released
returns-in-Err-clause-released g t c =
    first-stops part_mechanism g.D.Draws.step c.args.parts.now c.in-Some.first.now c.in-Some.rest.now (g.I.Input.stands_for c.args.input.now) _ _ c.in-Err.fault c.in-Some.ensures.cases.0 c.in-Err.ensures.released

pub returns-in-Err-release_each-clause-released : goal.returns-in-Err-release_each-clause-released
returns-in-Err-release_each-clause-released g t c =
    rest-stops part_mechanism g.D.Draws.step c.args.parts.now c.in-Some.first.now c.in-Some.rest.now (g.I.Input.stands_for c.args.input.now) _ _ _ c.in-Ok.front c.in-Err-release_each.fault c.in-Some.ensures.cases.0
    c.in-Ok.ensures.released c.in-Err-release_each.ensures.released

pub returns-in-Err-joined_answers-clause-released : goal.returns-in-Err-joined_answers-clause-released
returns-in-Err-joined_answers-clause-released g t c =
    no-room part_mechanism g.D.Draws.step c.args.parts.now c.in-Some.first.now c.in-Some.rest.now (g.I.Input.stands_for c.args.input.now) _ _ _ c.in-Ok.front c.in-Ok-release_each.back c.in-Some.ensures.cases.0
    c.in-Ok.ensures.released c.in-Ok-release_each.ensures.released

pub returns-in-Ok-joined_answers-clause-released : goal.returns-in-Ok-joined_answers-clause-released
returns-in-Ok-joined_answers-clause-released g t c =
    all-answer part_mechanism g.D.Draws.step c.args.parts.now c.in-Some.first.now c.in-Some.rest.now (g.I.Input.stands_for c.args.input.now) _ _ _ c.in-Ok.front c.in-Ok-release_each.back c.in-Ok-joined_answers.answer c.in-Some.ensures.cases.0
    c.in-Ok.ensures.released c.in-Ok-release_each.ensures.released c.in-Ok-joined_answers.ensures
