use Rattle.tests_work.proofs.own_writes.own_write_is_read.Given as goal

abbrev pub ghosts-reads_own_writes : goal.ghosts-reads_own_writes
ghosts-reads_own_writes g a = record { name = a.blank.name; parts = a.blank.parts }
