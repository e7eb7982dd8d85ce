use Rattle.dp_session.proofs.Transcripts.{transcript-law, session-shape}
use Rattle.dp_session.proofs.laws.transcript_law.Goals as goal

pub returns-clause-lines : goal.returns-clause-lines
returns-clause-lines c = transcript-law

pub returns-clause-shape : goal.returns-clause-shape
returns-clause-shape c = session-shape
