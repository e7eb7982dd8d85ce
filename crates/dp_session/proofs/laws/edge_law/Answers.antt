use Rattle.dp_session.proofs.PrivacyEdges.{edge-law}
use Rattle.dp_session.proofs.laws.edge_law.Goals as goal

pub returns : goal.returns
returns c = edge-law
