use Rattle.tab_book.proofs.tests.another_reply_does_not_settle.Given as goal

abbrev pub ghosts-refuses_another_reply : goal.ghosts-refuses_another_reply
ghosts-refuses_another_reply g a = record { name = a.blank.name; parts = a.blank.parts }
