use Rattle.dp_runner.proofs.AnswererSteps.{session-own}
use Rattle.dp_runner.proofs.answerer.SessionAnswerer.answer_line.Goals as goal

pub returns-in-Ok-clause-line : goal.returns-in-Ok-clause-line
returns-in-Ok-clause-line g c = λ past s.
    c.in-Ok.ensures.line c.args.self.now.queries.pipeline c.args.self.now.store.records past s

pub returns-in-Ok-clause-answered : goal.returns-in-Ok-clause-answered
returns-in-Ok-clause-answered g c = λ past s.
    session-own c.answer_by.new.session _ _ _
    (c.in-Ok.ensures.stands c.args.self.now.queries.pipeline c.args.self.now.store.records past s)

pub returns-in-Err-DrawFault-clause-line : goal.returns-in-Err-DrawFault-clause-line
returns-in-Err-DrawFault-clause-line g c = λ past s.
    rw c.in-Err-DrawFault.field-0-is
    at c.in-Err-DrawFault.ensures.line c.args.self.now.queries.pipeline c.args.self.now.store.records past s

pub returns-in-Err-WriteFault-clause-line : goal.returns-in-Err-WriteFault-clause-line
returns-in-Err-WriteFault-clause-line g c = λ past s.
    rw c.in-Err-WriteFault.field-0-is
    at c.in-Err-WriteFault.ensures.line c.args.self.now.queries.pipeline c.args.self.now.store.records past s

pub returns-in-Err-NoMemory-clause-line : goal.returns-in-Err-NoMemory-clause-line
returns-in-Err-NoMemory-clause-line g c = λ past s.
    rw c.in-Err-NoMemory.field-0-is
    at c.in-Err-NoMemory.ensures.line c.args.self.now.queries.pipeline c.args.self.now.store.records past s
