use Rattle.rule_tests.proofs.field_rules_tests.members_lie_where_another_calendar_puts_them.Given as goal

abbrev pub ghosts-near_rule : goal.ghosts-near_rule
ghosts-near_rule g a = record { name = a.blank.name; parts = a.blank.parts }
