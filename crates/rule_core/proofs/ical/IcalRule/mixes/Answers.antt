use Rattle.std.proofs.Common.{refl}
use Rattle.rule_core.specs.IcalChecks.{mixes_of}
use Rattle.rule_core.proofs.ical.IcalRule.mixes.Goals as goal

pub returns : goal.returns
unfolding mixes_of
returns c =
    rw (
      c.is_yearly-yearly.ensures,
      c.is_monthly-monthly.ensures,
      c.is_weekly-weekly.ensures,
      c.is_daily-daily.ensures,
      c.is_given-by_week.ensures,
      c.is_given-by_year_day.ensures,
      c.is_given-by_month_day.ensures,
      c.is_given-by_set_pos.ensures,
      c.has_ordinals-ordinals.ensures,
      c.is_some.ensures,
      c.is_some-2.ensures,
      c.is_by_given.ensures,
    ) refl
