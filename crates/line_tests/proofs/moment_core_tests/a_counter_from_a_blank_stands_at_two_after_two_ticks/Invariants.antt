use Rattle.line_tests.proofs.moment_core_tests.a_counter_from_a_blank_stands_at_two_after_two_ticks.Given as goal

abbrev pub ghosts-take_two_steps : goal.ghosts-take_two_steps
ghosts-take_two_steps a = record { name = a.blank.name; parts = a.blank.parts }
