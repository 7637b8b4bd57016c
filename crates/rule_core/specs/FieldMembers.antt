-- The members of a field rule.
use Rattle.std.specs.Prelude.{ℕ, ◌+◌, ◌==◌, ℤ, pos, ◌+ℤ◌, ◌-ℤ◌, unsigned_abs, int_le, Bool, true, not, ◌&&◌, ◌||◌, List, Option, Some, None, if◌then◌else◌}
use Rattle.moment_core.specs.Calendar.{divides, month_of, day_of_month, weekday_of, week_year_of, week_of, weeks_in_year}
use Rattle.moment_core.specs.TimeOfDay.{day_of, second_of_day, hour_of, minute_of, second_of}
use Rattle.moment_core.specs.Units.{unit_of, year_len_of, month_len_of, day_of_year}
use Rattle.moment_core.specs.declared.line.TheConstants.{LOW, HIGH, REACH}
use Rattle.moment_core.specs.declared.line.Stamp.{Stamp}
use Rattle.moment_core.specs.declared.units.Unit.{Unit as TimeUnit}
use Rattle.moment_core.specs.declared.units.Unit.TheVariants as units
use Rattle.rule_core.specs.declared.field.FieldRule.{FieldRule}
use Rattle.rule_core.specs.declared.field.Counted.{Counted}
use Rattle.rule_core.specs.declared.field.Counted.TheVariants.{OfYear, OfMonth, OfWeek, Never}
use Rattle.rule_core.specs.declared.part.Freq.{Freq}
use Rattle.rule_core.specs.declared.part.Freq.TheVariants as freqs
use Rattle.rule_core.specs.FieldChecks.{counted, has_hours, has_minutes, has_seconds, is_yearly}
use Rattle.rule_core.specs.Values.{is_given, is_listed}

-- the weekday on which weeks begin, and the moment from which units are counted
abbrev pub first_weekday : Option ℤ → ℕ
first_weekday None = 1
first_weekday (Some n) = unsigned_abs n

abbrev pub start_of : Option Stamp → ℤ
start_of None = pos 0
start_of (Some stamp) = stamp.moment.0

-- the unit that repeats
abbrev pub yearly_unit : ℕ → Bool → TimeUnit
yearly_unit first weeks = if weeks then units.WeekYear first else units.Year

abbrev pub unit_by : Freq → ℕ → Bool → TimeUnit
unit_by freqs.Yearly first weeks = yearly_unit first weeks
unit_by freqs.Monthly first weeks = units.Month
unit_by freqs.Weekly first weeks = units.Week first
unit_by freqs.Daily first weeks = units.Day
unit_by freqs.Hourly first weeks = units.Hour
unit_by freqs.Minutely first weeks = units.Minute
unit_by freqs.Secondly first weeks = units.Second

abbrev pub field_unit : FieldRule → TimeUnit
field_unit r = unit_by r.freq (first_weekday r.week_start) (is_given r.weeks)

-- one of the values means the own one, and without values it is the first one
unfoldable pub meets : List ℤ → ℕ → ℕ → ℕ → Bool
meets values base first own = if is_given values then is_listed values base own else own == first

-- the day, by what the days of the rule count
unfoldable pub meets_day : Counted → FieldRule → ℤ → Bool
meets_day OfYear r day = meets r.days (year_len_of day + 1) 1 (day_of_year day)
meets_day OfMonth r day =
    (not (is_yearly r.freq) || meets r.months 13 1 (month_of day))
    && meets r.days (month_len_of day + 1) 1 (day_of_month day)
meets_day OfWeek r day =
    let first = first_weekday r.week_start in
    (not (is_given r.weeks)
    || is_listed r.weeks (weeks_in_year first (week_year_of first day) + 1) (week_of first day))
    && meets r.days 8 first (weekday_of day)
meets_day Never r day = true

-- the time of day, as far as the rule doesn't repeat within it
unfoldable pub meets_time : FieldRule → ℤ → Bool
meets_time r t =
    (not (has_hours r.freq) || meets r.hours 24 0 (hour_of t))
    && (not (has_minutes r.freq) || meets r.minutes 60 0 (minute_of t))
    && (not (has_seconds r.freq) || meets r.seconds 60 0 (second_of t))

-- t meets the rule's tests of the day and of the time of day
abbrev pub meets_fields : FieldRule → ℤ → Bool
meets_fields r t = meets_day (counted r) r (day_of t) && meets_time r t

-- t meets every field, and a whole number of intervals lies between its unit and the start's
unfoldable pub has_field : FieldRule → ℤ → Bool
has_field r t =
    meets_fields r t
    && divides (unsigned_abs r.interval)
    (unit_of (field_unit r) t -ℤ unit_of (field_unit r) (start_of r.start))

-- a moment of the working range
abbrev pub is_working : ℤ → Bool
is_working t = int_le (LOW -ℤ REACH) t && int_le t (HIGH +ℤ REACH)

-- A place at which a search for members stops: a midnight of the working range, or a moment there
-- that meets the tests of the day and of the time of day. The interval is no part of it.
unfoldable pub is_field_candidate : FieldRule → ℤ → Bool
is_field_candidate r t = is_working t && ((second_of_day t == 0) || meets_fields r t)
