use Rattle.field_rules.proofs.Checks.{seconds_are}
use Rattle.field_rules.proofs.times.seconds.Goals as goal

pub time_mask-requires-clause-values : goal.time_mask-requires-clause-values
time_mask-requires-clause-values c = seconds_are c.args.rule.now c.rule_laws.ensures.field_values
    c.requires
