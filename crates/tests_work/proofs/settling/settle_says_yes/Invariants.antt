use Rattle.tests_work.proofs.settling.settle_says_yes.Given as goal

abbrev pub ghosts-settles_after_all : goal.ghosts-settles_after_all
ghosts-settles_after_all g a = record { name = a.blank.name; parts = a.blank.parts }
