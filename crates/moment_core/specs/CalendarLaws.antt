-- The laws of the calendar, on all whole numbers of years, days and seconds.
use Rattle.std.specs.Prelude.{◌≡◌, ◌↔◌, ℕ, ◌+◌, ◌*◌, ◌%◌, ◌<◌, ℤ, pos, neg_ℤ, ◌+ℤ◌, ◌-ℤ◌, ◌*ℤ◌, ◌<ℤ◌, ◌≤ℤ◌}
use Rattle.std.specs.Int.{IsInRange}
use Rattle.moment_core.specs.declared.line.TheConstants.{LOW, HIGH, WIDTH, G}
use Rattle.moment_core.specs.Line.{IsCalendarMoment, IsWorkingMoment}
use Rattle.moment_core.specs.Calendar.{is_leap, year_len, month_len, first_day, day_number, year_of, days_into_year, month_of, day_of_month, weekday_of, week_start, week_one, week_year_of, week_of, weeks_in_year, month_number, month_first, week_number}
use Rattle.moment_core.specs.Units.{HasWeekday, unit_of, units_of}
use Rattle.moment_core.specs.declared.units.Unit.{Unit as TimeUnit}
use Rattle.moment_core.specs.TimeOfDay.{day_of, second_of_day, hour_of, minute_of, second_of, IsCivil, seconds_of}

-- a year's days lie from its first day to the day before the next year's, and no other year holds
-- them
abbrev pub YearsHoldDays : Type 0
YearsHoldDays =
    (day : ℤ) → (first_day (year_of day) ≤ℤ day) × (day <ℤ first_day (year_of day +ℤ pos 1))
    × ((y : ℤ) → first_day y ≤ℤ day → day <ℤ first_day (y +ℤ pos 1) → year_of day ≡ y)

-- 1970 begins on day 0, and each year after the days of the year before
abbrev pub YearsFollow : Type 0
YearsFollow =
    (first_day (pos 1970) ≡ pos 0)
    × ((y : ℤ) → first_day (y +ℤ pos 1) ≡ first_day y +ℤ pos (year_len y))

-- a month's days lie from its first day to the day before the next month's, and no other month
-- holds them
abbrev pub MonthsHoldDays : Type 0
MonthsHoldDays =
    (day : ℤ)
    → (month_first (month_number day) ≤ℤ day) × (day <ℤ month_first (month_number day +ℤ pos 1))
    × ((n : ℤ) → month_first n ≤ℤ day → day <ℤ month_first (n +ℤ pos 1) → month_number day ≡ n)

-- a year begins with its January, and each month after the days of the month before
abbrev pub MonthsFollow : Type 0
MonthsFollow =
    ((y : ℤ) → month_first (y *ℤ pos 12) ≡ first_day y)
    × ((y : ℤ) (m : ℕ) → m < 12
    → month_first (y *ℤ pos 12 +ℤ pos (m + 1))
    ≡ month_first (y *ℤ pos 12 +ℤ pos m) +ℤ pos (month_len (is_leap y) (m + 1)))

-- each day has a date, and a date that the calendar has is the date of one day
abbrev pub DatesNameDays : Type 0
DatesNameDays =
    ((day : ℤ) → IsInRange 1 12 (month_of day)
    × IsInRange 1 (month_len (is_leap (year_of day)) (month_of day)) (day_of_month day)
    × (day_number (year_of day) (month_of day) (day_of_month day) ≡ day))
    × ((y : ℤ) (m d : ℕ) → IsInRange 1 12 m → IsInRange 1 (month_len (is_leap y) m) d
    → (year_of (day_number y m d) ≡ y) × (month_of (day_number y m d) ≡ m)
    × (day_of_month (day_number y m d) ≡ d))

-- each moment has a date and a time of day, and those that the calendar has are of one moment
abbrev pub TimesNameMoments : Type 0
TimesNameMoments =
    ((t : ℤ) → IsCivil (year_of (day_of t)) (month_of (day_of t)) (day_of_month (day_of t))
    (hour_of t) (minute_of t) (second_of t)
    × (seconds_of (year_of (day_of t)) (month_of (day_of t)) (day_of_month (day_of t)) (hour_of t)
    (minute_of t) (second_of t) ≡ t))
    × ((y : ℤ) (m d h n s : ℕ) → IsCivil y m d h n s
    → (year_of (day_of (seconds_of y m d h n s)) ≡ y)
    × (month_of (day_of (seconds_of y m d h n s)) ≡ m)
    × (day_of_month (day_of (seconds_of y m d h n s)) ≡ d) × (hour_of (seconds_of y m d h n s) ≡ h)
    × (minute_of (seconds_of y m d h n s) ≡ n) × (second_of (seconds_of y m d h n s) ≡ s))

-- day 0 is a Thursday, and the weekdays follow each other from Monday to Sunday
abbrev pub WeekdaysFollow : Type 0
WeekdaysFollow =
    (weekday_of (pos 0) ≡ 4) × ((day : ℤ) → weekday_of (day +ℤ pos 1) ≡ weekday_of day % 7 + 1)

-- a week begins on the weekday `first` and has seven days
abbrev pub WeeksHoldDays : Type 0
WeeksHoldDays =
    (first : ℕ) (day : ℤ) → IsInRange 1 7 first
    → (weekday_of (week_start first day) ≡ first) × (week_start first day ≤ℤ day)
    × (day <ℤ (week_start first day +ℤ pos 7))

-- the week with number 0 begins on the first weekday `first` from day 0 on, and each week seven
-- days after the week before
abbrev pub WeeksFollow : Type 0
WeeksFollow =
    (first start : ℕ) → start < 7 → weekday_of (pos start) ≡ first
    → (day : ℤ) → week_start first day ≡ pos start +ℤ pos 7 *ℤ week_number first day

-- week 1 of a year begins on the weekday `first`: at most three days of the year come before it, so
-- that no week before has four of them, and at most three of its own days come before the year
abbrev pub FirstWeeksHaveFourDays : Type 0
FirstWeeksHaveFourDays =
    (first : ℕ) (y : ℤ) → IsInRange 1 7 first
    → (weekday_of (week_one first y) ≡ first)
    × (week_one first y ≤ℤ (first_day y +ℤ pos 3)) × (first_day y ≤ℤ (week_one first y +ℤ pos 3))

-- a week-year's days lie from its week 1 to the day before the next one's, and no other week-year
-- holds them; week n begins n - 1 weeks after week 1
abbrev pub WeekYearsHoldDays : Type 0
WeekYearsHoldDays =
    (first : ℕ) (day : ℤ) → IsInRange 1 7 first
    → (week_one first (week_year_of first day) ≤ℤ day)
    × (day <ℤ week_one first (week_year_of first day +ℤ pos 1))
    × ((y : ℤ) → week_one first y ≤ℤ day → day <ℤ week_one first (y +ℤ pos 1)
    → week_year_of first day ≡ y)
    × IsInRange 1 (weeks_in_year first (week_year_of first day)) (week_of first day)
    × (week_start first day +ℤ pos 7
    ≡ week_one first (week_year_of first day) +ℤ pos (7 * week_of first day))

-- a week-year has 52 or 53 weeks, and the next begins after them
abbrev pub WeekYearsFollow : Type 0
WeekYearsFollow =
    (first : ℕ) (y : ℤ) → IsInRange 1 7 first
    → IsInRange 52 53 (weeks_in_year first y)
    × (week_one first (y +ℤ pos 1) ≡ week_one first y +ℤ pos (7 * weeks_in_year first y))

-- a later day has no earlier year, month, week-year or week
abbrev pub LaterDaysAreOfLaterUnits : Type 0
LaterDaysAreOfLaterUnits =
    (day later : ℤ) → day ≤ℤ later
    → (year_of day ≤ℤ year_of later) × (month_number day ≤ℤ month_number later)
    × ((first : ℕ) → (week_number first day ≤ℤ week_number first later)
    × (IsInRange 1 7 first → week_year_of first day ≤ℤ week_year_of first later))

-- 146,097 days later the date is the same but for the year, which is 400 years later, and the
-- weekday is the same
abbrev pub DatesRepeat : Type 0
DatesRepeat =
    ((y : ℤ) → (is_leap (y +ℤ pos 400) ≡ is_leap y)
    × (first_day (y +ℤ pos 400) ≡ first_day y +ℤ pos 146_097))
    × ((day : ℤ) → (year_of (day +ℤ pos 146_097) ≡ year_of day +ℤ pos 400)
    × (month_of (day +ℤ pos 146_097) ≡ month_of day)
    × (day_of_month (day +ℤ pos 146_097) ≡ day_of_month day)
    × (days_into_year (day +ℤ pos 146_097) ≡ days_into_year day)
    × (weekday_of (day +ℤ pos 146_097) ≡ weekday_of day)
    × (month_number (day +ℤ pos 146_097) ≡ month_number day +ℤ pos 4800))

-- and so is the number of the week, in a week-year 400 years later with as many weeks
abbrev pub WeeksRepeat : Type 0
WeeksRepeat =
    (first : ℕ) → IsInRange 1 7 first
    → ((y : ℤ) → weeks_in_year first (y +ℤ pos 400) ≡ weeks_in_year first y)
    × ((day : ℤ) → (week_year_of first (day +ℤ pos 146_097) ≡ week_year_of first day +ℤ pos 400)
    × (week_of first (day +ℤ pos 146_097) ≡ week_of first day)
    × (week_number first (day +ℤ pos 146_097) ≡ week_number first day +ℤ pos 20_871))

-- `G` seconds later the time of day is the same, 146,097 days later
abbrev pub TimesRepeat : Type 0
TimesRepeat =
    (t : ℤ) → (day_of (t +ℤ pos G) ≡ day_of t +ℤ pos 146_097)
    × (second_of_day (t +ℤ pos G) ≡ second_of_day t)

-- and the number of each unit is that of the same unit 400 years later
abbrev pub UnitsRepeat : Type 0
UnitsRepeat =
    (unit : TimeUnit) (t : ℤ) → unit_of unit (t +ℤ pos G) ≡ unit_of unit t +ℤ pos (units_of unit)

-- a later moment is of no earlier unit
abbrev pub LaterMomentsAreOfLaterUnits : Type 0
LaterMomentsAreOfLaterUnits =
    (unit : TimeUnit) (t later : ℤ) → HasWeekday unit → t ≤ℤ later
    → unit_of unit t ≤ℤ unit_of unit later

-- no unit has 54 weeks: two moments of one unit lie less than 54 weeks apart
abbrev pub UnitsAreShort : Type 0
UnitsAreShort =
    (unit : TimeUnit) (t later : ℤ) → HasWeekday unit → unit_of unit t ≡ unit_of unit later
    → later <ℤ (t +ℤ pos (54 * 604_800))

-- the calendar range has `WIDTH` moments, those of the years from -9900 to 9900, and the working
-- range lies in the years from -9990 to 9990
abbrev pub RangesAreOfYears : Type 0
RangesAreOfYears =
    (pos WIDTH ≡ HIGH -ℤ LOW +ℤ pos 1)
    × ((t : ℤ)
    → (IsCalendarMoment t ↔ ((neg_ℤ (pos 9900) ≤ℤ year_of (day_of t))
    × (year_of (day_of t) ≤ℤ pos 9900)))
    × (IsWorkingMoment t
    → (neg_ℤ (pos 9990) ≤ℤ year_of (day_of t)) × (year_of (day_of t) ≤ℤ pos 9990)))
