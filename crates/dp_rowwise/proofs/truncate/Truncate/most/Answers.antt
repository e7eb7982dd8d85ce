use Rattle.std.proofs.Common.{refl}
use Rattle.dp_rowwise.proofs.truncate.Truncate.most.Goals as goal

pub returns-clause-truncates : goal.returns-clause-truncates
returns-clause-truncates c = (c.args.self.now.column, c.args.self.now.columns, refl)
