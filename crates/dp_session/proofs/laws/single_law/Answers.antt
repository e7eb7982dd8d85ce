use Rattle.dp_session.proofs.SinglePrivacy.{post-privacy, group-privacy, plan-refusal}
use Rattle.dp_session.proofs.laws.single_law.Goals as goal

pub returns-clause-post : goal.returns-clause-post
returns-clause-post c = post-privacy

pub returns-clause-group : goal.returns-clause-group
returns-clause-group c = group-privacy

pub returns-clause-refusal : goal.returns-clause-refusal
returns-clause-refusal c = plan-refusal
