use Rattle.rule_tests.proofs.stored_pair_tests.a_guarded_recurrence_answers_and_counts_three_steps.Given as goal

abbrev pub ghosts-looks : goal.ghosts-looks
ghosts-looks g a = record { name = a.blank.name; parts = a.blank.parts }
