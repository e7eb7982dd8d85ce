use Rattle.dp_law.proofs.JoinedReleases.{front-stops, back-stops, both-answers, join-memory}
use Rattle.dp_law.specs.Joining.{both}
use Rattle.dp_chain.proofs.both.BothMeasurement.release.Goals as goal

pub returns-in-Err-clause-released : goal.returns-in-Err-clause-released
returns-in-Err-clause-released g c =
    let one = g.M1.Measurement.mechanism c.args.self.now.first in
    let other = g.M2.Measurement.mechanism c.args.self.now.second in
    front-stops _ one.shape other.shape (one.function c.args.v.now) ((both one other).function c.args.v.now) _ _
    c.in-Err.fault c.in-Err.ensures.released

pub returns-in-Err-release-clause-released : goal.returns-in-Err-release-clause-released
returns-in-Err-release-clause-released g c =
    let one = g.M1.Measurement.mechanism c.args.self.now.first in
    let other = g.M2.Measurement.mechanism c.args.self.now.second in
    back-stops _ one.shape other.shape (one.function c.args.v.now) (other.function c.args.v.now) ((both one other).function c.args.v.now)
    _ _ _ _ c.in-Err-release.fault c.in-Ok.ensures.released c.in-Err-release.ensures.released

pub returns-in-Err-joined_answers-clause-released : goal.returns-in-Err-joined_answers-clause-released
returns-in-Err-joined_answers-clause-released g c =
    join-memory _ _ _ _ _ _ _ _ _ _ c.in-Ok.ensures.released c.in-Ok-release.ensures.released

pub returns-in-Ok-joined_answers-clause-released : goal.returns-in-Ok-joined_answers-clause-released
returns-in-Ok-joined_answers-clause-released g c =
    rw c.in-Ok-joined_answers.ensures (both-answers _ _ _ _ _ _ _ _ _ _ c.in-Ok.ensures.released c.in-Ok-release.ensures.released)
