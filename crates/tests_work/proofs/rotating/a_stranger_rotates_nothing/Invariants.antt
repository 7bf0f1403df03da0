use Rattle.tests_work.proofs.rotating.a_stranger_rotates_nothing.Given as goal

abbrev pub ghosts-hands_out_nothing : goal.ghosts-hands_out_nothing
ghosts-hands_out_nothing g a = record { name = a.blank.name; parts = a.blank.parts }
