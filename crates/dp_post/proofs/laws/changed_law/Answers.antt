use Rattle.dp_post.specs.PostedProof.{changed_law}
use Rattle.dp_post.proofs.GivenAnswers.{given, given-once, changed-ways}
use Rattle.dp_post.proofs.laws.changed_law.Goals as goal

pub returns-clause-given : goal.returns-clause-given
returns-clause-given c = given

pub returns-clause-once : goal.returns-clause-once
returns-clause-once c = given-once

pub returns-clause-ways : goal.returns-clause-ways
returns-clause-ways c = changed-ways

pub returns-clause-private : goal.returns-clause-private
returns-clause-private c = changed_law
