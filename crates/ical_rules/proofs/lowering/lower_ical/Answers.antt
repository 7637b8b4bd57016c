use Rattle.ical_rules.proofs.Checks.{count_is}
use Rattle.ical_rules.proofs.lowering.lower_ical.Goals as goal

pub lower-requires-clause-count : goal.lower-requires-clause-count
lower-requires-clause-count c = count_is c.rule_laws.ensures.ical_values c.args.rule.now
    c.requires.checked
