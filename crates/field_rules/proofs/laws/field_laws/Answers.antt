use Rattle.field_rules.proofs.Repeating.{checked_rules_repeat}
use Rattle.field_rules.proofs.laws.field_laws.Goals as goal

pub returns : goal.returns
returns c =
    checked_rules_repeat c.period_laws.ensures.rule c.rule_laws.ensures.field_repeats
    c.rule_laws.ensures.field_interval
