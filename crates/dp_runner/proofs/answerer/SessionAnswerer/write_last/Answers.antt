use Rattle.dp_runner.proofs.answerer.SessionAnswerer.write_last.Goals as goal

pub returns-in-Ok-clause-ends : goal.returns-in-Ok-clause-ends
returns-in-Ok-clause-ends g c = λ past s.
    c.in-Ok.ensures.line c.args.self.now.queries.pipeline c.args.self.now.store.records past s

pub returns-in-Err-WriteFault-clause-ends : goal.returns-in-Err-WriteFault-clause-ends
returns-in-Err-WriteFault-clause-ends g c = λ past s.
    rw c.in-Err-WriteFault.field-0-is
    at c.in-Err-WriteFault.ensures.line c.args.self.now.queries.pipeline c.args.self.now.store.records past s
