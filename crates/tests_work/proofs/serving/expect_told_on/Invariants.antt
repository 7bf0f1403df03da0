use Rattle.tests_work.proofs.serving.expect_told_on.Given as goal

abbrev pub ghosts-told_on : goal.ghosts-told_on
ghosts-told_on g a = record { name = a.blank.name; parts = a.blank.parts }
