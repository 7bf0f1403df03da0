use Rattle.tests_work.proofs.settling.seats_out.Given as goal

abbrev pub ghosts-misses_one : goal.ghosts-misses_one
ghosts-misses_one g a = record { name = a.blank.name; parts = a.blank.parts }
