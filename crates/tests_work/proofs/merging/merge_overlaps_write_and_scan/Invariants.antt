use Rattle.tests_work.proofs.merging.merge_overlaps_write_and_scan.Given as goal

abbrev pub ghosts-overlaps : goal.ghosts-overlaps
ghosts-overlaps g a = record { name = a.blank.name; parts = a.blank.parts }
