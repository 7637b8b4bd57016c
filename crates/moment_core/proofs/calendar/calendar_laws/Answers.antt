use Rattle.std.proofs.Common.{refl}
use Rattle.moment_core.proofs.YearLaws.{year_of-is, year_of-unique, first_day-1970, first_day-next, year_of_mono, year_of-cycle, is_leap-cycle, first_day-cycle}
use Rattle.moment_core.proofs.DateLaws.{month_of-is, day_number-of, date-of_day_number, month_number_mono, month_of-cycle, day_of_month-cycle, days_into_year-cycle, weekday_of-cycle}
use Rattle.moment_core.proofs.MonthLaws.{month_number-is, month_number-unique, month_first-january, month_first-follows, month_number-cycle}
use Rattle.moment_core.proofs.TimeLaws.{IsCivil-fields, seconds_of-fields, fields-of_seconds, day_of-cycle, years-of_calendar_moment, IsCalendarMoment-of_years, years-of_working_moment}
use Rattle.moment_core.proofs.UnitLaws.{unit-below-54-weeks, unit_of-cycle, unit_of_mono}
use Rattle.moment_core.proofs.WeekLaws.{weekday_of-zero, weekday_of-next, weeks-hold_days, week_number-is, week_one-is, week_year_of-is, week_year_of-unique, week_of-bounds, week_of-is, weeks_in_year-is, week_number_mono, week_year_of_mono, weeks_in_year-cycle, week_year_of-cycle, week_of-cycle, week_number-cycle}
use Rattle.moment_core.proofs.calendar.calendar_laws.Goals as goal

pub returns-clause-years_hold_days : goal.returns-clause-years_hold_days
returns-clause-years_hold_days c =
    λ day. ((year_of-is day).0, (year_of-is day).1, year_of-unique day)

pub returns-clause-years_follow : goal.returns-clause-years_follow
returns-clause-years_follow c = (first_day-1970, first_day-next)

pub returns-clause-months_hold_days : goal.returns-clause-months_hold_days
returns-clause-months_hold_days c =
    λ day. ((month_number-is day).0, (month_number-is day).1, month_number-unique day)

pub returns-clause-months_follow : goal.returns-clause-months_follow
returns-clause-months_follow c = (month_first-january, month_first-follows)

pub returns-clause-dates_name_days : goal.returns-clause-dates_name_days
returns-clause-dates_name_days c =
    (λ day. ((month_of-is day).0, (month_of-is day).1, day_number-of day), date-of_day_number)

pub returns-clause-times_name_moments : goal.returns-clause-times_name_moments
returns-clause-times_name_moments c =
    (λ t. (IsCivil-fields t, seconds_of-fields t), fields-of_seconds)

pub returns-clause-weekdays_follow : goal.returns-clause-weekdays_follow
returns-clause-weekdays_follow c = (weekday_of-zero, weekday_of-next)

pub returns-clause-weeks_hold_days : goal.returns-clause-weeks_hold_days
returns-clause-weeks_hold_days c = weeks-hold_days

pub returns-clause-weeks_follow : goal.returns-clause-weeks_follow
returns-clause-weeks_follow c = week_number-is

pub returns-clause-first_weeks_have_four_days : goal.returns-clause-first_weeks_have_four_days
returns-clause-first_weeks_have_four_days c = λ first y h. week_one-is first y h

pub returns-clause-week_years_hold_days : goal.returns-clause-week_years_hold_days
returns-clause-week_years_hold_days c =
    λ first day h. (
      (week_year_of-is first day h).0,
      (week_year_of-is first day h).1,
      λ y.
          week_year_of-unique first day y h,
      week_of-bounds first day h,
      week_of-is first day h,
    )

pub returns-clause-week_years_follow : goal.returns-clause-week_years_follow
returns-clause-week_years_follow c =
    λ first y h. ((weeks_in_year-is first y h).1, (weeks_in_year-is first y h).0)

pub returns-clause-later_days_are_of_later_units : goal.returns-clause-later_days_are_of_later_units
returns-clause-later_days_are_of_later_units c =
    λ day later h. (
      year_of_mono day later h,
      month_number_mono day later h,
      λ first. (
        week_number_mono first day later h,
        λ in_week. week_year_of_mono first day later in_week h,
      ),
    )

pub returns-clause-dates_repeat : goal.returns-clause-dates_repeat
returns-clause-dates_repeat c = (
  λ y. (is_leap-cycle y, first_day-cycle y),
  λ day. (
    year_of-cycle day,
    month_of-cycle day,
    day_of_month-cycle day,
    days_into_year-cycle day,
    weekday_of-cycle day,
    month_number-cycle day,
  ),
)

pub returns-clause-weeks_repeat : goal.returns-clause-weeks_repeat
returns-clause-weeks_repeat c = λ first h. (
  λ y. weeks_in_year-cycle first y,
  λ day. (week_year_of-cycle first day, week_of-cycle first day, week_number-cycle first day),
)

pub returns-clause-times_repeat : goal.returns-clause-times_repeat
returns-clause-times_repeat c = day_of-cycle

pub returns-clause-units_repeat : goal.returns-clause-units_repeat
returns-clause-units_repeat c = unit_of-cycle

pub returns-clause-later_moments_are_of_later_units :
    goal.returns-clause-later_moments_are_of_later_units
returns-clause-later_moments_are_of_later_units c = unit_of_mono

pub returns-clause-units_are_short : goal.returns-clause-units_are_short
returns-clause-units_are_short c = unit-below-54-weeks

pub returns-clause-ranges_are_of_years : goal.returns-clause-ranges_are_of_years
returns-clause-ranges_are_of_years c = (
  refl,
  λ t. (
    (years-of_calendar_moment t, IsCalendarMoment-of_years t),
    years-of_working_moment
        t,
  ),
)
