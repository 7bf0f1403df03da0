use Rattle.tests_work.proofs.gates.gate_is_asked_before_each_next.Given as goal

abbrev pub ghosts-counts : goal.ghosts-counts
ghosts-counts g a = record { name = a.blank.name; parts = a.blank.parts }
