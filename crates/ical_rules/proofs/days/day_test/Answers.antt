use Rattle.std.proofs.Common.{ℕ, refl, subst}
use Rattle.std.specs.Int.{IsInRange}
use Rattle.rule_core.specs.IcalMembers.{filled}
use Rattle.ical_rules.proofs.days.day_test.Goals as goal

pub returns : goal.returns
unfolding filled
returns c = record {
  months = c.months.ensures;
  first = refl;
  weekday = subst (λ (n : ℕ). IsInRange 1 7 n) c.number-first.ensures.value
      c.number-first.ensures.within;
  weeks = c.weeks.ensures;
  year_days = c.year_days.ensures;
  month_days = c.month_days.ensures;
  week_days = c.weekdays-week_days.ensures;
  in_month = c.is_nth_in_month.ensures;
}
