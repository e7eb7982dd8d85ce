use Rattle.std.proofs.Common.{[], refl}
use Rattle.dp_draws.proofs.Taking.{take_draws-none}
use Rattle.dp_runner.proofs.AnswererSteps.{account-own}
use Rattle.dp_runner.proofs.answerer.AccountAnswerer.answer_line.Goals as goal

pub returns-in-Ok-clause-line : goal.returns-in-Ok-clause-line
returns-in-Ok-clause-line g c = λ past s.
    ([], take_draws-none g.D.Draws.step (g.D.Draws.state c.args.draws.now), c.in-Ok.ensures.line c.args.self.now.queries.pipeline past s)

pub returns-in-Ok-clause-answered : goal.returns-in-Ok-clause-answered
returns-in-Ok-clause-answered g c = λ past s.
    account-own c.line.new.self _ _ (c.in-Ok.ensures.stands c.args.self.now.queries.pipeline past s)

pub returns-in-Err-WriteFault-clause-line : goal.returns-in-Err-WriteFault-clause-line
returns-in-Err-WriteFault-clause-line g c = λ past s. (
  [],
  take_draws-none g.D.Draws.step (g.D.Draws.state c.args.draws.now),
  rw c.in-Err-WriteFault.field-0-is at c.in-Err-WriteFault.ensures.line c.args.self.now.queries.pipeline past s,
)

pub returns-in-Err-NoMemory-clause-line : goal.returns-in-Err-NoMemory-clause-line
returns-in-Err-NoMemory-clause-line g c = λ past s. (
  ([], [], [], refl, take_draws-none g.D.Draws.step (g.D.Draws.state c.args.draws.now)),
  rw c.in-Err-NoMemory.field-0-is at c.in-Err-NoMemory.ensures.line c.args.self.now.queries.pipeline past s,
)
