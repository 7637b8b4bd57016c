use Rattle.rule_core.specs.IcalMembers.{filled}
use Rattle.ical_rules.proofs.Checks.{given_also}
use Rattle.ical_rules.proofs.days.is_nth_in_month.Goals as goal

pub returns : goal.returns
unfolding filled
returns c = given_also _ _ _ _ _ _ c.args.rule.now.by_month c.is_monthly.ensures c.is_given.ensures
    c.takes_date.ensures
