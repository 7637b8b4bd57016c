-- The units of time and their numbers, and what a day is in its year and its month.
use Rattle.std.specs.Prelude.{ℕ, ◌+◌, ◌-◌, ◌/◌, ℤ, pos, neg_ℤ, Bool, ◌||◌}
use Rattle.std.specs.Ordering.{int_eq}
use Rattle.std.specs.Int.{IsInRange}
use Rattle.moment_core.specs.Calendar.{floor_div, is_leap, year_len, month_len, year_of, days_into_year, month_of, week_year_of, month_number, week_number}
use Rattle.moment_core.specs.TimeOfDay.{day_of}
use Rattle.moment_core.specs.declared.line.TheConstants.{G}
use Rattle.moment_core.specs.declared.units.Unit.{Unit as TimeUnit}
use Rattle.moment_core.specs.declared.units.Unit.TheVariants.{Year, WeekYear, Month, Week, Day, Hour, Minute, Second}

-- the number of the unit that holds a moment
unfoldable pub unit_of : TimeUnit → ℤ → ℤ
unit_of Year t = year_of (day_of t)
unit_of (WeekYear first) t = week_year_of first (day_of t)
unit_of Month t = month_number (day_of t)
unit_of (Week first) t = week_number first (day_of t)
unit_of Day t = day_of t
unit_of Hour t = floor_div t 3600
unit_of Minute t = floor_div t 60
unit_of Second t = t

-- the weekday on which the unit's weeks begin is one
abbrev pub HasWeekday : TimeUnit → Type 0
HasWeekday (WeekYear first) = IsInRange 1 7 first
HasWeekday (Week first) = IsInRange 1 7 first
HasWeekday u = Unit {0}

-- how many such units 400 years have
abbrev pub units_of : TimeUnit → ℕ
units_of Year = 400
units_of (WeekYear first) = 400
units_of Month = 4800
units_of (Week first) = 20_871
units_of Day = 146_097
units_of Hour = 3_506_328
units_of Minute = 210_379_680
units_of Second = G

-- the days of a day's year and of its month
abbrev pub year_len_of : ℤ → ℕ
year_len_of day = year_len (year_of day)

abbrev pub month_len_of : ℤ → ℕ
month_len_of day = month_len (is_leap (year_of day)) (month_of day)

-- the day of the year, from 1 on
abbrev pub day_of_year : ℤ → ℕ
day_of_year day = days_into_year day + 1

-- v of 1 to n, counted from the end: n is the first
abbrev pub from_end : ℕ → ℕ → ℕ
from_end n v = n + 1 - v

-- how many of the days 1 to v are of v's weekday
abbrev pub nth_of : ℕ → ℕ
nth_of v = (v - 1) / 7 + 1

-- n is v's ordinal among those of the days 1 to len that are of its weekday, from the end where n
-- is negative (the ordinals of BYDAY in RFC 5545, 3.3.10)
abbrev pub is_nth : ℤ → ℕ → ℕ → Bool
is_nth n len v = int_eq n (pos (nth_of v)) || int_eq n (neg_ℤ (pos (nth_of (from_end len v))))
