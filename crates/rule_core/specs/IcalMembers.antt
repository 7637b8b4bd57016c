-- The members of a rule of RFC 5545 (3.3.10), by one test for each BY part.
use Rattle.std.specs.Prelude.{ℕ, ◌+◌, ◌==◌, ℤ, pos, neg_ℤ, ◌-ℤ◌, unsigned_abs, int_le, Bool, true, not, ◌&&◌, ◌||◌, List, [], ◌∷◌, Option, Some, None, if◌then◌else◌}
use Rattle.std.specs.List.{list_any}
use Rattle.std.specs.Ordering.{int_eq}
use Rattle.moment_core.specs.Calendar.{divides, month_of, day_of_month, weekday_of, week_year_of, week_of, weeks_in_year}
use Rattle.moment_core.specs.Ranks.{rank_in, count_to}
use Rattle.moment_core.specs.TimeOfDay.{day_of, hour_of, minute_of, second_of}
use Rattle.moment_core.specs.Units.{unit_of, year_len_of, month_len_of, day_of_year, is_nth}
use Rattle.moment_core.specs.declared.line.Dir.TheVariants.{Fore, Back}
use Rattle.moment_core.specs.declared.line.Moment.{Moment}
use Rattle.moment_core.specs.declared.units.Unit.{Unit as TimeUnit}
use Rattle.rule_core.specs.declared.ical.IcalRule.{IcalRule}
use Rattle.rule_core.specs.declared.lists.DayItem.{DayItem}
use Rattle.rule_core.specs.FieldChecks.{has_hours, has_minutes, has_seconds, is_yearly}
use Rattle.rule_core.specs.FieldMembers.{unit_by}
use Rattle.rule_core.specs.IcalChecks.{has_ordinal, is_monthly, is_weekly}
use Rattle.rule_core.specs.Values.{is_given, is_listed}

abbrev pub ical_unit : IcalRule → TimeUnit
ical_unit r = unit_by r.freq r.week_start (is_given r.by_week)

-- a part that is given lists the own value, one below 0 counted back from the base; from 0 nothing
-- counts back
unfoldable pub meets_part : List ℤ → ℕ → ℕ → Bool
meets_part values base own = not (is_given values) || is_listed values base own

-- the weekday, by itself or as the nth one of the month or of the year
unfoldable pub is_day_item : Bool → ℤ → DayItem → Bool
is_day_item in_month day item =
    (weekday_of day == item.day)
    && (not (has_ordinal item)
    || (if in_month then is_nth item.nth (month_len_of day) (day_of_month day)
    else is_nth item.nth (year_len_of day) (day_of_year day)))

-- no part tells the day of the year, of the month or of the week
abbrev pub lacks_days : IcalRule → Bool
lacks_days r = not (is_given r.by_day || is_given r.by_month_day || is_given r.by_year_day)

-- What isn't given is taken from the first moment: the second, the minute and the hour, unless the
-- rule repeats within them; the weekday with WEEKLY; the day of the month with MONTHLY, unless
-- weekdays are given; and with YEARLY, where no part tells the day, the weekday if weeks are given,
-- or else the day of the month and the month.
abbrev pub takes_weekday : IcalRule → Bool
takes_weekday r = is_weekly r.freq || (is_yearly r.freq && lacks_days r && is_given r.by_week)

abbrev pub takes_date : IcalRule → Bool
takes_date r = is_yearly r.freq && lacks_days r && not (is_given r.by_week)

abbrev pub takes_month_day : IcalRule → Bool
takes_month_day r = (is_monthly r.freq && not (is_given r.by_day)) || takes_date r

abbrev pub or_taken : {X : Type 0} → Bool → X → List X → List X
or_taken taken own values = if taken && not (is_given values) then own ∷ [] else values

unfoldable pub filled : IcalRule → IcalRule
filled r =
    let start = r.start.moment.0 in
    record r {
      by_month = or_taken (takes_date r) (pos (month_of (day_of start))) r.by_month;
      by_month_day =
          or_taken (takes_month_day r) (pos (day_of_month (day_of start))) r.by_month_day;
      by_day = or_taken (takes_weekday r)
          (record { nth = pos 0; day = weekday_of (day_of start) }) r.by_day;
      by_hour = or_taken (has_hours r.freq) (pos (hour_of start)) r.by_hour;
      by_minute = or_taken (has_minutes r.freq) (pos (minute_of start)) r.by_minute;
      by_second = or_taken (has_seconds r.freq) (pos (second_of start)) r.by_second;
    }

unfoldable pub meets_by_day : IcalRule → ℤ → Bool
meets_by_day r day =
    not (is_given r.by_day)
    || list_any (is_day_item (is_monthly r.freq || is_given r.by_month) day) r.by_day

-- the BY parts that test the day, and those that test the time of day
unfoldable pub meets_by_date : IcalRule → ℤ → Bool
meets_by_date r day =
    meets_part r.by_month 0 (month_of day)
    && meets_part r.by_week (weeks_in_year r.week_start (week_year_of r.week_start day) + 1)
    (week_of r.week_start day)
    && meets_part r.by_year_day (year_len_of day + 1) (day_of_year day)
    && meets_part r.by_month_day (month_len_of day + 1) (day_of_month day)
    && meets_by_day r day

unfoldable pub meets_by_time : IcalRule → ℤ → Bool
meets_by_time r t =
    meets_part r.by_hour 0 (hour_of t) && meets_part r.by_minute 0 (minute_of t)
    && meets_part r.by_second 0 (second_of t)

-- every BY part but BYSETPOS, and every default
unfoldable pub meets_parts : IcalRule → ℤ → Bool
meets_parts r t = meets_by_date (filled r) (day_of t) && meets_by_time (filled r) t

-- BYSETPOS lists the rank from the unit's first such moment, or from its last
unfoldable pub meets_set_pos : IcalRule → ℤ → Bool
meets_set_pos r t =
    not (is_given r.by_set_pos)
    || list_any (λ n. int_eq n (pos (rank_in (ical_unit r) (meets_parts r) Back t))
    || int_eq n (neg_ℤ (pos (rank_in (ical_unit r) (meets_parts r) Fore t)))) r.by_set_pos

abbrev pub is_by : Option Moment → ℤ → Bool
is_by None t = true
is_by (Some last) t = int_le t last.0

-- the members without COUNT
unfoldable pub has_uncounted : IcalRule → ℤ → Bool
has_uncounted r t =
    int_le r.start.moment.0 t
    && divides (unsigned_abs r.interval)
    (unit_of (ical_unit r) t -ℤ unit_of (ical_unit r) r.start.moment.0)
    && meets_parts r t && meets_set_pos r t && is_by r.until t

abbrev pub is_within_count : Option ℤ → ℕ → Bool
is_within_count None n = true
is_within_count (Some count) n = int_le (pos n) count

-- the members: of those without COUNT, the first so many
unfoldable pub has_ical : IcalRule → ℤ → Bool
has_ical r t =
    has_uncounted r t && is_within_count r.count (count_to (has_uncounted r) r.start.moment.0 t)
