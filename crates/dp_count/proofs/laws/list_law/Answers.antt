use Rattle.dp_count.proofs.AllDrawLists.{draw_lists-members, draw_lists-once, draw_lists-counted}
use Rattle.dp_count.proofs.laws.list_law.Goals as goal

pub returns-clause-members : goal.returns-clause-members
returns-clause-members c = draw_lists-members

pub returns-clause-once : goal.returns-clause-once
returns-clause-once c = draw_lists-once

pub returns-clause-counted : goal.returns-clause-counted
returns-clause-counted c = draw_lists-counted
