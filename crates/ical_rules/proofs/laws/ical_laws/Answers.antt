use Rattle.ical_rules.proofs.Repeating.{checked_ical_rules_repeat}
use Rattle.ical_rules.proofs.laws.ical_laws.Goals as goal

pub returns : goal.returns
returns c =
    checked_ical_rules_repeat c.period_laws.ensures.rule c.rule_laws.ensures.ical_repeats
    c.rule_laws.ensures.ical_interval c.rule_laws.ensures.ical_values c.rule_laws.ensures.until
