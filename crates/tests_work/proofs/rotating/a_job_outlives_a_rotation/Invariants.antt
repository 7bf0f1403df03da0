use Rattle.tests_work.proofs.rotating.a_job_outlives_a_rotation.Given as goal

abbrev pub ghosts-installs_behind : goal.ghosts-installs_behind
ghosts-installs_behind g a = record { name = a.blank.name; parts = a.blank.parts }
