use Rattle.dp_session.proofs.Privacy.{texts-privacy, records-privacy}
use Rattle.dp_session.proofs.laws.privacy_law.Goals as goal

pub returns-clause-texts : goal.returns-clause-texts
returns-clause-texts c = texts-privacy

pub returns-clause-records : goal.returns-clause-records
returns-clause-records c = records-privacy
