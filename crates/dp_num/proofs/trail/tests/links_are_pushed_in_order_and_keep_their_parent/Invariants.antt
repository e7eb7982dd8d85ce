use Rattle.dp_num.proofs.trail.tests.links_are_pushed_in_order_and_keep_their_parent.Given as goal

abbrev pub ghosts-read_two : goal.ghosts-read_two
ghosts-read_two g a = record { name = a.blank.name; parts = a.blank.parts }
