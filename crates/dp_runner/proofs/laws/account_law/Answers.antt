use Rattle.dp_runner.proofs.AccountRuns.{account-done}
use Rattle.dp_runner.proofs.laws.account_law.Goals as goal

pub returns : goal.returns
returns c = account-done
