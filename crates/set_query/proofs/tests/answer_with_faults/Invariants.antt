use Rattle.set_query.proofs.tests.answer_with_faults.Given as goal

abbrev pub ghosts-run_with_faults : goal.ghosts-run_with_faults
ghosts-run_with_faults a = record { name = a.blank.name; parts = a.blank.parts }
