use Rattle.dp_session.proofs.account.Account.line.Given as goal

abbrev pub ghosts-line_text : goal.ghosts-line_text
ghosts-line_text g a = record { name = a.blank.name; parts = a.blank.parts }
