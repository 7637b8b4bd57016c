-- Members of field rules, worked out by another calendar. The text of each rule stands before it.
use Rattle.std.specs.Prelude.{ℕ, ℤ, pos, neg_ℤ, Bool, false, not, ◌&&◌, List, [], ◌∷◌, Option, Some, None}
use Rattle.std.specs.List.{list_all, list_any}
use Rattle.moment_core.specs.TimeOfDay.{seconds_of}
use Rattle.moment_core.specs.declared.line.Stamp.{Stamp}
use Rattle.rule_core.specs.declared.field.FieldRule.{FieldRule}
use Rattle.rule_core.specs.declared.part.Freq.{Freq}
use Rattle.rule_core.specs.declared.part.Freq.TheVariants as freqs
use Rattle.rule_core.specs.FieldMembers.{has_field}

-- a rule without fields
abbrev pub every : Freq → FieldRule
every freq = record {
  freq = freq;
  months = [];
  weeks = [];
  days = [];
  hours = [];
  minutes = [];
  seconds = [];
  interval = pos 1;
  start = None;
  week_start = None;
}

-- a moment, and the midnight of a date
abbrev pub at : ℤ → ℕ → ℕ → ℕ → ℕ → ℕ → ℤ
at year month day hour minute second = seconds_of year month day hour minute second

abbrev pub date : ℤ → ℕ → ℕ → ℤ
date year month day = at year month day 0 0 0

abbrev pub from : ℤ → Option Stamp
from start = Some (record { moment = record { 0 = start }; absolute = false })

-- the rule has each moment of the first list, and none of the second
abbrev pub tells : FieldRule → List ℤ → List ℤ → Bool
tells r members others = list_all (has_field r) members && not (list_any (has_field r) others)

-- Yearly dates: a month and its day, the first ones where none is given, and both counted from the
-- end.
abbrev pub dates_of_year : Bool
dates_of_year =
    -- yearly()
    tells (every freqs.Yearly)
    (date (pos 2024) 1 1 ∷ date (pos 2023) 1 1 ∷ [])
    (date (pos 2024) 2 1 ∷ date (pos 2024) 1 2 ∷ at (pos 2024) 1 1 1 0 0 ∷ [])
    -- yearly(months=2)
    && tells (record (every freqs.Yearly) { months = pos 2 ∷ [] })
    (date (pos 2024) 2 1 ∷ [])
    (date (pos 2024) 2 2 ∷ date (pos 2024) 3 1 ∷ [])
    -- yearly(months=-1,-12 days=-1)
    && tells (record (every freqs.Yearly)
    { months = neg_ℤ (pos 1) ∷ neg_ℤ (pos 12) ∷ []; days = neg_ℤ (pos 1) ∷ [] })
    (date (pos 2023) 12 31 ∷ date (pos 2024) 1 31 ∷ [])
    (date (pos 2023) 11 30 ∷ date (pos 2023) 12 30 ∷ [])
    -- yearly(months=2 days=-1)
    && tells (record (every freqs.Yearly) { months = pos 2 ∷ []; days = neg_ℤ (pos 1) ∷ [] })
    (date (pos 2024) 2 29 ∷ date (pos 2023) 2 28 ∷ date (pos 2100) 2 28 ∷ date (pos 2000) 2 29 ∷ [])
    (date (pos 2024) 2 28 ∷ date (pos 2000) 2 28 ∷ date (pos 2024) 1 31 ∷ [])
    -- yearly(months=2 days=30)
    && tells (record (every freqs.Yearly) { months = pos 2 ∷ []; days = pos 30 ∷ [] })
    ([])
    (date (pos 2024) 2 29 ∷ date (pos 2024) 3 1 ∷ date (pos 2024) 3 2 ∷ date (pos 2024) 1 30 ∷ [])

-- Days of the year, from the end too; no month is tested.
abbrev pub days_of_year : Bool
days_of_year =
    -- yearly(days=60)
    tells (record (every freqs.Yearly) { days = pos 60 ∷ [] })
    (date (pos 2024) 2 29 ∷ date (pos 2023) 3 1 ∷ [])
    (date (pos 2024) 3 1 ∷ date (pos 2023) 2 28 ∷ date (pos 2024) 1 1 ∷ [])
    -- yearly(days=-307)
    && tells (record (every freqs.Yearly) { days = neg_ℤ (pos 307) ∷ [] })
    (date (pos 2024) 2 29 ∷ date (pos 2023) 2 28 ∷ [])
    (date (pos 2024) 3 1 ∷ date (pos 2023) 3 1 ∷ [])
    -- yearly(days=366,-366)
    && tells (record (every freqs.Yearly) { days = pos 366 ∷ neg_ℤ (pos 366) ∷ [] })
    (date (pos 2024) 12 31 ∷ date (pos 2024) 1 1 ∷ [])
    (date (pos 2023) 12 31 ∷ date (pos 2023) 1 1 ∷ [])

-- Days of the month, from the end too.
abbrev pub days_of_month : Bool
days_of_month =
    -- monthly()
    tells (every freqs.Monthly)
    (date (pos 2024) 5 1 ∷ [])
    (date (pos 2024) 5 2 ∷ date (pos 2024) 5 31 ∷ [])
    -- monthly(days=-1)
    && tells (record (every freqs.Monthly) { days = neg_ℤ (pos 1) ∷ [] })
    (date (pos 2024) 2 29 ∷ date (pos 2023) 2 28 ∷ date (pos 2024) 4 30 ∷ [])
    (date (pos 2024) 2 28 ∷ date (pos 2024) 3 30 ∷ at (pos 2024) 2 29 0 0 1 ∷ [])
    -- monthly(days=31,-30)
    && tells (record (every freqs.Monthly) { days = pos 31 ∷ neg_ℤ (pos 30) ∷ [] })
    (date (pos 2024) 1 31 ∷ date (pos 2024) 1 2 ∷ date (pos 2024) 4 1 ∷ [])
    (date (pos 2024) 4 30 ∷ date (pos 2024) 5 1 ∷ [])

-- Weeks of the week-year and their weekdays, from the end too, the first day of the week where none
-- is given.
abbrev pub weeks_of_year : Bool
weeks_of_year =
    -- yearly(weeks=53)
    tells (record (every freqs.Yearly) { weeks = pos 53 ∷ [] })
    (date (pos 2020) 12 28 ∷ date (pos 2026) 12 28 ∷ [])
    (date (pos 2021) 12 27 ∷ date (pos 2020) 12 21 ∷ date (pos 2020) 12 29 ∷ [])
    -- yearly(weeks=-1 days=4 hours=9)
    && tells (record (every freqs.Yearly)
    { weeks = neg_ℤ (pos 1) ∷ []; days = pos 4 ∷ []; hours = pos 9 ∷ [] })
    (at (pos 2020) 12 31 9 0 0 ∷ at (pos 2021) 12 30 9 0 0 ∷ [])
    (at (pos 2020) 12 24 9 0 0 ∷ at (pos 2020) 12 30 9 0 0 ∷ date (pos 2020) 12 31 ∷ [])
    -- yearly(weeks=-53 days=-1)
    && tells (record (every freqs.Yearly)
    { weeks = neg_ℤ (pos 53) ∷ []; days = neg_ℤ (pos 1) ∷ [] })
    (date (pos 2020) 1 5 ∷ [])
    (date (pos 2021) 1 10 ∷ date (pos 2021) 1 3 ∷ date (pos 2020) 1 12 ∷ [])
    -- yearly(weeks=1)
    && tells (record (every freqs.Yearly) { weeks = pos 1 ∷ [] })
    (date (pos 2024) 1 1 ∷ date (pos 2024) 12 30 ∷ date (pos 2021) 1 4 ∷ [])
    (date (pos 2025) 1 6 ∷ date (pos 2023) 12 31 ∷ [])
    -- yearly(weeks=1 week_start=7)
    && tells (record (every freqs.Yearly) { weeks = pos 1 ∷ []; week_start = Some (pos 7) })
    (date (pos 2023) 12 31 ∷ date (pos 2026) 1 4 ∷ date (pos 2027) 1 3 ∷ date (pos 2024) 12 29 ∷ [])
    (date (pos 2024) 1 1 ∷ date (pos 2025) 12 28 ∷ [])
    -- yearly(weeks=1 days=4 interval=2 start=2024-06-01T00:00:00)
    && tells (record (every freqs.Yearly) {
      weeks = pos 1 ∷ [];
      days = pos 4 ∷ [];
      interval = pos 2;
      start = from (date (pos 2024) 6 1);
    })
    (date (pos 2024) 1 4 ∷ date (pos 2026) 1 1 ∷ [])
    (date (pos 2025) 1 2 ∷ date (pos 2027) 1 7 ∷ date (pos 2024) 12 31 ∷ [])
    -- yearly(weeks=1 interval=2 start=2023-12-31T00:00:00 week_start=7)
    && tells (record (every freqs.Yearly) {
      weeks = pos 1 ∷ [];
      interval = pos 2;
      start = from (date (pos 2023) 12 31);
      week_start = Some (pos 7);
    })
    (date (pos 2023) 12 31 ∷ date (pos 2026) 1 4 ∷ [])
    (date (pos 2024) 12 29 ∷ date (pos 2025) 12 28 ∷ [])

-- Weekdays, counted from Monday wherever the week begins; without one, the first of the week.
abbrev pub weekdays : Bool
weekdays =
    -- weekly()
    tells (every freqs.Weekly)
    (date (pos 2024) 1 1 ∷ [])
    (date (pos 2024) 1 2 ∷ date (pos 2023) 12 31 ∷ [])
    -- weekly(week_start=7)
    && tells (record (every freqs.Weekly) { week_start = Some (pos 7) })
    (date (pos 2023) 12 31 ∷ [])
    (date (pos 2024) 1 1 ∷ date (pos 2024) 1 6 ∷ [])
    -- weekly(days=-1,3 week_start=4)
    && tells (record (every freqs.Weekly)
    { days = neg_ℤ (pos 1) ∷ pos 3 ∷ []; week_start = Some (pos 4) })
    (date (pos 2023) 12 31 ∷ date (pos 2024) 1 3 ∷ [])
    (date (pos 2024) 1 4 ∷ date (pos 2024) 1 1 ∷ [])

-- Every other week, where weeks begin on Monday, on Sunday, on Thursday and on Friday, from a start
-- or from 1970.
abbrev pub weeks_apart : Bool
weeks_apart =
    -- weekly(days=1,7 interval=2 start=2024-01-03T00:00:00)
    tells (record (every freqs.Weekly)
    { days = pos 1 ∷ pos 7 ∷ []; interval = pos 2; start = from (date (pos 2024) 1 3) })
    (date (pos 2024) 1 1 ∷ date (pos 2024) 1 7 ∷ date (pos 2024) 1 15 ∷ date (pos 2023) 12 24 ∷ [])
    (date (pos 2024) 1 8 ∷ date (pos 2024) 1 14 ∷ date (pos 2023) 12 31 ∷ [])
    -- weekly(days=1,7 interval=2 start=2024-01-03T00:00:00 week_start=7)
    && tells (record (every freqs.Weekly) {
      days = pos 1 ∷ pos 7 ∷ [];
      interval = pos 2;
      start = from (date (pos 2024) 1 3);
      week_start = Some (pos 7);
    })
    (date (pos 2023) 12 31 ∷ date (pos 2024) 1 1 ∷ date (pos 2024) 1 14 ∷ date (pos 2024) 1 15 ∷ [])
    (date (pos 2024) 1 7 ∷ date (pos 2024) 1 8 ∷ date (pos 2023) 12 24 ∷ [])
    -- weekly(interval=2)
    && tells (record (every freqs.Weekly) { interval = pos 2 })
    (date (pos 1969) 12 29 ∷ date (pos 1970) 1 12 ∷ [])
    (date (pos 1970) 1 5 ∷ date (pos 1969) 12 22 ∷ [])
    -- weekly(interval=2 week_start=4)
    && tells (record (every freqs.Weekly) { interval = pos 2; week_start = Some (pos 4) })
    (date (pos 1970) 1 1 ∷ date (pos 1970) 1 15 ∷ [])
    (date (pos 1970) 1 8 ∷ date (pos 1969) 12 25 ∷ [])
    -- weekly(interval=2 week_start=5)
    && tells (record (every freqs.Weekly) { interval = pos 2; week_start = Some (pos 5) })
    (date (pos 1969) 12 26 ∷ date (pos 1970) 1 9 ∷ [])
    (date (pos 1970) 1 2 ∷ [])

-- Hours, minutes and seconds, from the end too, and 0 where none is given.
abbrev pub times_of_day : Bool
times_of_day =
    -- daily()
    tells (every freqs.Daily)
    (date (pos 2024) 3 10 ∷ [])
    (at (pos 2024) 3 10 1 0 0 ∷ at (pos 2024) 3 10 0 1 0 ∷ at (pos 2024) 3 10 0 0 1 ∷ [])
    -- daily(hours=-1,9 minutes=-1,30 seconds=-59,59)
    && tells (record (every freqs.Daily) {
      hours = neg_ℤ (pos 1) ∷ pos 9 ∷ [];
      minutes = neg_ℤ (pos 1) ∷ pos 30 ∷ [];
      seconds = neg_ℤ (pos 59) ∷ pos 59 ∷ [];
    })
    (at (pos 2024) 3 10 23 59 1 ∷ at (pos 2024) 3 10 9 30 59 ∷ [])
    (at (pos 2024) 3 10 23 59 0 ∷ at (pos 2024) 3 10 9 31 59 ∷ at (pos 2024) 3 10 22 30 59 ∷ [])
    -- daily(hours=-24 minutes=-60 seconds=-60)
    && tells (record (every freqs.Daily) {
      hours = neg_ℤ (pos 24) ∷ [];
      minutes = neg_ℤ (pos 60) ∷ [];
      seconds = neg_ℤ (pos 60) ∷ [];
    })
    (date (pos 2024) 3 10 ∷ [])
    (at (pos 2024) 3 10 1 0 0 ∷ at (pos 2024) 3 10 0 1 0 ∷ [])
    -- hourly(minutes=-15)
    && tells (record (every freqs.Hourly) { minutes = neg_ℤ (pos 15) ∷ [] })
    (at (pos 2024) 3 10 5 45 0 ∷ [])
    (at (pos 2024) 3 10 5 15 0 ∷ at (pos 2024) 3 10 5 45 1 ∷ [])
    -- hourly()
    && tells (every freqs.Hourly)
    (at (pos 2024) 3 10 5 0 0 ∷ [])
    (at (pos 2024) 3 10 5 45 0 ∷ [])
    -- minutely(seconds=-1)
    && tells (record (every freqs.Minutely) { seconds = neg_ℤ (pos 1) ∷ [] })
    (at (pos 2024) 3 10 5 45 59 ∷ [])
    (at (pos 2024) 3 10 5 45 0 ∷ at (pos 2024) 3 10 5 45 58 ∷ [])
    -- minutely()
    && tells (every freqs.Minutely)
    (at (pos 2024) 3 10 5 45 0 ∷ [])
    (at (pos 2024) 3 10 5 45 1 ∷ [])
    -- secondly()
    && tells (every freqs.Secondly)
    (at (pos 2024) 3 10 5 45 37 ∷ [])
    ([])

-- Intervals of each unit from 1970, where no start is given.
abbrev pub intervals : Bool
intervals =
    -- yearly(interval=4)
    tells (record (every freqs.Yearly) { interval = pos 4 })
    (date (pos 1970) 1 1 ∷ date (pos 2022) 1 1 ∷ date (pos 1966) 1 1 ∷ [])
    (date (pos 2024) 1 1 ∷ date (pos 1969) 1 1 ∷ [])
    -- monthly(interval=5)
    && tells (record (every freqs.Monthly) { interval = pos 5 })
    (date (pos 1970) 1 1 ∷ date (pos 1970) 6 1 ∷ date (pos 2024) 3 1 ∷ date (pos 1969) 8 1 ∷ [])
    (date (pos 2024) 1 1 ∷ [])
    -- daily(interval=3)
    && tells (record (every freqs.Daily) { interval = pos 3 })
    (date (pos 1970) 1 1 ∷ date (pos 1970) 1 4 ∷ date (pos 1969) 12 29 ∷ [])
    (date (pos 1970) 1 2 ∷ date (pos 1969) 12 31 ∷ [])
    -- hourly(interval=7)
    && tells (record (every freqs.Hourly) { interval = pos 7 })
    (date (pos 1970) 1 1 ∷ at (pos 1970) 1 1 7 0 0 ∷ at (pos 1969) 12 31 17 0 0 ∷ [])
    (at (pos 1970) 1 1 1 0 0 ∷ at (pos 1969) 12 31 23 0 0 ∷ [])
    -- minutely(interval=11)
    && tells (record (every freqs.Minutely) { interval = pos 11 })
    (date (pos 1970) 1 1 ∷ at (pos 1970) 1 1 0 11 0 ∷ at (pos 1969) 12 31 23 49 0 ∷ [])
    (at (pos 1970) 1 1 0 1 0 ∷ at (pos 1969) 12 31 23 59 0 ∷ [])
    -- secondly(interval=13)
    && tells (record (every freqs.Secondly) { interval = pos 13 })
    (date (pos 1970) 1 1 ∷ at (pos 1970) 1 1 0 0 13 ∷ at (pos 1969) 12 31 23 59 47 ∷ [])
    (at (pos 1970) 1 1 0 0 1 ∷ at (pos 1969) 12 31 23 59 59 ∷ [])

-- A start tells the first unit and bounds nothing.
abbrev pub starts : Bool
starts =
    -- yearly(interval=3 start=2024-12-31T23:59:59)
    tells (record (every freqs.Yearly)
    { interval = pos 3; start = from (at (pos 2024) 12 31 23 59 59) })
    (date (pos 2024) 1 1 ∷ date (pos 2021) 1 1 ∷ date (pos 2027) 1 1 ∷ [])
    (date (pos 2022) 1 1 ∷ date (pos 2025) 1 1 ∷ [])
    -- monthly(days=15 interval=2 start=2023-12-31T00:00:00)
    && tells (record (every freqs.Monthly)
    { days = pos 15 ∷ []; interval = pos 2; start = from (date (pos 2023) 12 31) })
    (date (pos 2023) 12 15 ∷ date (pos 2023) 10 15 ∷ date (pos 2024) 2 15 ∷ [])
    (date (pos 2024) 1 15 ∷ date (pos 2023) 11 15 ∷ [])
    -- daily(interval=2 start=2024-02-29T13:00:00)
    && tells (record (every freqs.Daily)
    { interval = pos 2; start = from (at (pos 2024) 2 29 13 0 0) })
    (date (pos 2024) 2 29 ∷ date (pos 2024) 2 27 ∷ date (pos 2024) 3 2 ∷ [])
    (date (pos 2024) 3 1 ∷ date (pos 2024) 2 28 ∷ [])
    -- hourly(interval=2 start=2024-01-01T03:30:00)
    && tells (record (every freqs.Hourly)
    { interval = pos 2; start = from (at (pos 2024) 1 1 3 30 0) })
    (at (pos 2024) 1 1 3 0 0 ∷ at (pos 2024) 1 1 1 0 0 ∷ [])
    (at (pos 2024) 1 1 2 0 0 ∷ [])
    -- minutely(interval=2 start=2024-01-01T00:01:30)
    && tells (record (every freqs.Minutely)
    { interval = pos 2; start = from (at (pos 2024) 1 1 0 1 30) })
    (at (pos 2024) 1 1 0 1 0 ∷ at (pos 2023) 12 31 23 59 0 ∷ [])
    (at (pos 2024) 1 1 0 2 0 ∷ [])
    -- daily(hours=-1 minutes=-1 seconds=-1 interval=2)
    && tells (record (every freqs.Daily) {
      hours = neg_ℤ (pos 1) ∷ [];
      minutes = neg_ℤ (pos 1) ∷ [];
      seconds = neg_ℤ (pos 1) ∷ [];
      interval = pos 2;
    })
    (at (pos 1970) 1 1 23 59 59 ∷ [])
    (at (pos 1970) 1 2 23 59 59 ∷ [])
    -- secondly(interval=2 start=2024-01-01T00:00:01)
    && tells (record (every freqs.Secondly)
    { interval = pos 2; start = from (at (pos 2024) 1 1 0 0 1) })
    (at (pos 2024) 1 1 0 0 1 ∷ at (pos 2023) 12 31 23 59 59 ∷ [])
    (date (pos 2024) 1 1 ∷ [])

-- Years below 0 are numbers as all others.
abbrev pub before_year_0 : Bool
before_year_0 =
    -- yearly(months=2 days=29)
    tells (record (every freqs.Yearly) { months = pos 2 ∷ []; days = pos 29 ∷ [] })
    (date (neg_ℤ (pos 4)) 2 29 ∷ date (pos 0) 2 29 ∷ date (neg_ℤ (pos 400)) 2 29 ∷
    date (neg_ℤ (pos 9600)) 2 29 ∷ [])
    (date (neg_ℤ (pos 100)) 3 1 ∷ date (neg_ℤ (pos 3)) 3 1 ∷ [])
    -- yearly(interval=4)
    && tells (record (every freqs.Yearly) { interval = pos 4 })
    (date (neg_ℤ (pos 2)) 1 1 ∷ date (neg_ℤ (pos 6)) 1 1 ∷ [])
    (date (neg_ℤ (pos 4)) 1 1 ∷ date (neg_ℤ (pos 1)) 1 1 ∷ [])
    -- yearly(weeks=-1 days=-1)
    && tells (record (every freqs.Yearly) { weeks = neg_ℤ (pos 1) ∷ []; days = neg_ℤ (pos 1) ∷ [] })
    (date (pos 0) 1 2 ∷ date (pos 0) 12 31 ∷ [])
    (date (neg_ℤ (pos 1)) 1 2 ∷ date (neg_ℤ (pos 1)) 12 26 ∷ date (neg_ℤ (pos 1)) 1 9 ∷ [])
    -- weekly(days=1 interval=2)
    && tells (record (every freqs.Weekly) { days = pos 1 ∷ []; interval = pos 2 })
    (date (neg_ℤ (pos 9899)) 1 3 ∷ date (neg_ℤ (pos 9899)) 1 17 ∷ [])
    (date (neg_ℤ (pos 9899)) 1 10 ∷ date (neg_ℤ (pos 9899)) 1 4 ∷ [])
    -- monthly(days=-1 hours=-1 interval=7)
    && tells (record (every freqs.Monthly)
    { days = neg_ℤ (pos 1) ∷ []; hours = neg_ℤ (pos 1) ∷ []; interval = pos 7 })
    (at (neg_ℤ (pos 1)) 7 31 23 0 0 ∷ [])
    (at (neg_ℤ (pos 1)) 1 31 23 0 0 ∷ at (neg_ℤ (pos 1)) 12 31 23 0 0
    ∷ at (neg_ℤ (pos 1)) 12 31 22 0 0 ∷ [])
    -- secondly(interval=86401)
    && tells (record (every freqs.Secondly) { interval = pos 86_401 })
    (at (neg_ℤ (pos 1)) 12 30 16 7 59 ∷ at (neg_ℤ (pos 1)) 12 31 16 8 0 ∷ [])
    (at (neg_ℤ (pos 1)) 12 31 16 7 59 ∷ [])
