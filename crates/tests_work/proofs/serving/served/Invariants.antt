use Rattle.tests_work.proofs.serving.served.Given as goal

abbrev pub ghosts-served_at : goal.ghosts-served_at
ghosts-served_at g a = record { name = a.blank.name; parts = a.blank.parts }
