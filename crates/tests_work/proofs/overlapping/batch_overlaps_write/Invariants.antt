use Rattle.tests_work.proofs.overlapping.batch_overlaps_write.Given as goal

abbrev pub ghosts-overlaps : goal.ghosts-overlaps
ghosts-overlaps g a = record { name = a.blank.name; parts = a.blank.parts }
