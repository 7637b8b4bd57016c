use Rattle.std.proofs.Common.{refl}
use Rattle.rule_core.specs.FieldChecks.{counted}
use Rattle.field_rules.proofs.TestLemmas.{days_same}
use Rattle.field_rules.proofs.days.day_test.Goals as goal

pub returns : goal.returns
returns c =
    let r = c.args.rule.now in
    days_same c.calendar_laws.ensures.week_years_hold_days c.table_laws.ensures.signed
    c.table_laws.ensures.weekdays (counted r) r _ (record {
      months = c.months.ensures;
      weeks = c.weeks.ensures;
      first = c.first_weekday.ensures;
      weekday = c.rule_laws.ensures.week_start r c.requires;
      year_days = c.year_days.ensures;
      month_days = c.month_days.ensures;
      week_days = c.week_days.ensures;
      nth = refl;
    })
