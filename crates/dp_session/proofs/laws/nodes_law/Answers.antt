use Rattle.dp_session.proofs.Histories.{past-accepted, past-declares}
use Rattle.dp_session.proofs.Privacy.{node-values, text-values}
use Rattle.dp_session.proofs.laws.nodes_law.Goals as goal

pub returns-clause-history : goal.returns-clause-history
returns-clause-history c = λ pipeline past. (past-accepted pipeline past, past-declares pipeline past)

pub returns-clause-values : goal.returns-clause-values
returns-clause-values c = node-values

pub returns-clause-text_values : goal.returns-clause-text_values
returns-clause-text_values c = text-values
