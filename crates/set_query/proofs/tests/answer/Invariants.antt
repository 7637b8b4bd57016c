use Rattle.set_query.proofs.tests.answer.Given as goal

abbrev pub ghosts-run_sure : goal.ghosts-run_sure
ghosts-run_sure a = record { name = a.blank.name; parts = a.blank.parts }
