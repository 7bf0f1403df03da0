use Rattle.tests_work.proofs.under_load.compactors_change_no_answer.Given as goal

abbrev pub ghosts-settles_under_load : goal.ghosts-settles_under_load
ghosts-settles_under_load g a = record { name = a.blank.name; parts = a.blank.parts }
