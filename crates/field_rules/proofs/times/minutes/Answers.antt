use Rattle.field_rules.proofs.Checks.{minutes_are}
use Rattle.field_rules.proofs.times.minutes.Goals as goal

pub time_mask-requires-clause-values : goal.time_mask-requires-clause-values
time_mask-requires-clause-values c = minutes_are c.args.rule.now c.rule_laws.ensures.field_values
    c.requires
