use Rattle.ical_rules.proofs.RuleLemmas.{outcomes-exist, outcomes-one}
use Rattle.ical_rules.proofs.settling.settling_laws.Goals as goal

pub returns-clause-exist : goal.returns-clause-exist
returns-clause-exist c = outcomes-exist c.rule_laws.ensures.ical_values
    c.recurrence_laws.ensures.skips

pub returns-clause-unique : goal.returns-clause-unique
returns-clause-unique c = outcomes-one
