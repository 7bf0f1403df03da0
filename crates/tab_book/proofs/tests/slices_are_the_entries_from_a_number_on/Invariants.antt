use Rattle.tab_book.proofs.tests.slices_are_the_entries_from_a_number_on.Given as goal

abbrev pub ghosts-shares_entries : goal.ghosts-shares_entries
ghosts-shares_entries g a = record { name = a.blank.name; parts = a.blank.parts }
