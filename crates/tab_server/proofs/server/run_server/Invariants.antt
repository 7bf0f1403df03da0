use Rattle.tab_server.proofs.server.run_server.Given as goal

abbrev pub ghosts-serve_book : goal.ghosts-serve_book
ghosts-serve_book g a = record { name = a.blank.name; parts = a.blank.parts }
