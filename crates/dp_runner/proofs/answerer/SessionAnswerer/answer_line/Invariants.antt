use Rattle.dp_runner.proofs.answerer.SessionAnswerer.answer_line.Given as goal

abbrev pub ghosts-answer_by : goal.ghosts-answer_by
ghosts-answer_by g a = record { name = a.blank.name; parts = a.blank.parts }
