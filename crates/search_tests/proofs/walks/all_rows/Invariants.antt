use Rattle.search_tests.proofs.walks.all_rows.Given as goal

abbrev pub ghosts-walk_rows : goal.ghosts-walk_rows
ghosts-walk_rows g a = record { name = a.blank.name; parts = a.blank.parts }
