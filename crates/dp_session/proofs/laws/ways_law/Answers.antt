use Rattle.dp_session.proofs.Replies.{same_reply-decides}
use Rattle.dp_session.proofs.Ways.{run-ways}
use Rattle.dp_session.proofs.laws.ways_law.Goals as goal

pub returns-clause-same : goal.returns-clause-same
returns-clause-same c = same_reply-decides

pub returns-clause-product : goal.returns-clause-product
returns-clause-product c = run-ways
