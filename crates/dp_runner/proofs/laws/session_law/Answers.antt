use Rattle.dp_runner.proofs.Transcripts.{answered-out, answered-over, answered-all}
use Rattle.dp_runner.proofs.laws.session_law.Goals as goal

pub returns : goal.returns
returns c = record { runs_out = answered-out; limit = answered-over; transcript = answered-all }
