use Rattle.tests_work.proofs.rotating.a_connection_rotates.Given as goal

abbrev pub ghosts-rotates_over_frames : goal.ghosts-rotates_over_frames
ghosts-rotates_over_frames g a = record { name = a.blank.name; parts = a.blank.parts }
