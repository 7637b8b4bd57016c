use Rattle.std.proofs.Common.{refl}
use Rattle.ical_rules.specs.Rules.{last_counted}
use Rattle.rule_tests.proofs.ical_rules_tests.ready.Goals as goal

pub lower_ical-requires-clause-settled : goal.lower_ical-requires-clause-settled
unfolding last_counted
lower_ical-requires-clause-settled c = rw c.in-None.is refl
