use Rattle.tests_work.proofs.rotating.parts_settle_their_receipts.Given as goal

abbrev pub ghosts-settles_by_parts : goal.ghosts-settles_by_parts
ghosts-settles_by_parts g a = record { name = a.blank.name; parts = a.blank.parts }
