use Rattle.tests_work.proofs.rotating.rotations_lose_nothing.Given as goal

abbrev pub ghosts-rotates_beside_writers : goal.ghosts-rotates_beside_writers
ghosts-rotates_beside_writers g a = record { name = a.blank.name; parts = a.blank.parts }
