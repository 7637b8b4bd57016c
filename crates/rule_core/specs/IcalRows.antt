-- Members of rules of RFC 5545, worked out by another calendar. The text of each rule stands before
-- it.
use Rattle.std.specs.Prelude.{ℕ, ℤ, pos, neg_ℤ, Bool, false, not, ◌&&◌, List, [], ◌∷◌, Some, None}
use Rattle.std.specs.List.{list_all, list_any}
use Rattle.rule_core.specs.declared.ical.IcalRule.{IcalRule}
use Rattle.rule_core.specs.declared.lists.DayItem.{DayItem}
use Rattle.rule_core.specs.declared.part.Freq.{Freq}
use Rattle.rule_core.specs.declared.part.Freq.TheVariants as freqs
use Rattle.rule_core.specs.FieldRows.{at, date}
use Rattle.rule_core.specs.IcalMembers.{has_ical, has_uncounted}

-- a rule without BY parts
abbrev pub rule : Freq → ℤ → IcalRule
rule freq start = record {
  freq = freq;
  interval = pos 1;
  start = record { moment = record { 0 = start }; absolute = false };
  until = None;
  until_z = false;
  count = None;
  by_month = [];
  by_week = [];
  by_year_day = [];
  by_month_day = [];
  by_day = [];
  by_hour = [];
  by_minute = [];
  by_second = [];
  by_set_pos = [];
  week_start = 1;
}

abbrev pub day : ℤ → ℕ → DayItem
day nth weekday = record { nth = nth; day = weekday }

-- the rule has each moment of the first list, and none of the second; COUNT aside, and with it
abbrev pub tells : IcalRule → List ℤ → List ℤ → Bool
tells r members others =
    list_all (has_uncounted r) members && not (list_any (has_uncounted r) others)

abbrev pub tells_counted : IcalRule → List ℤ → List ℤ → Bool
tells_counted r members others = list_all (has_ical r) members && not (list_any (has_ical r) others)

-- Fridays the 13th, in the month and at the time of day alone; the first moment is a member only
-- where it meets the rule.
abbrev pub friday_13 : Bool
friday_13 =
    -- FREQ=MONTHLY;BYMONTHDAY=13;BYDAY=FR from 1997-09-02T09:00:00
    tells (record (rule freqs.Monthly (at (pos 1997) 9 2 9 0 0))
    { by_month_day = pos 13 ∷ []; by_day = day (pos 0) 5 ∷ [] })
    (at (pos 1998) 2 13 9 0 0 ∷ at (pos 1998) 3 13 9 0 0 ∷ at (pos 1998) 11 13 9 0 0 ∷
    at (pos 1999) 8 13 9 0 0 ∷ at (pos 2000) 10 13 9 0 0 ∷ [])
    (at (pos 1997) 9 2 9 0 0 ∷ at (pos 1997) 6 13 9 0 0 ∷ at (pos 1998) 1 13 9 0 0
    ∷ date (pos 1998) 2 13 ∷
    at (pos 1998) 2 20 9 0 0 ∷ [])

-- Every other week, where weeks begin on Monday and on Sunday; the weekday of the first moment
-- where none is given.
abbrev pub weekly_sets : Bool
weekly_sets =
    -- FREQ=WEEKLY;INTERVAL=2;BYDAY=TU,SU from 1997-08-05T09:00:00
    tells (record (rule freqs.Weekly (at (pos 1997) 8 5 9 0 0))
    { interval = pos 2; by_day = day (pos 0) 2 ∷ day (pos 0) 7 ∷ [] })
    (at (pos 1997) 8 5 9 0 0 ∷ at (pos 1997) 8 10 9 0 0 ∷ at (pos 1997) 8 19 9 0 0 ∷
    at (pos 1997) 8 24 9 0 0 ∷ [])
    (at (pos 1997) 8 17 9 0 0 ∷ at (pos 1997) 8 12 9 0 0 ∷ at (pos 1997) 8 31 9 0 0 ∷ [])
    -- FREQ=WEEKLY;INTERVAL=2;BYDAY=TU,SU;WKST=SU from 1997-08-05T09:00:00
    && tells (record (rule freqs.Weekly (at (pos 1997) 8 5 9 0 0))
    { interval = pos 2; by_day = day (pos 0) 2 ∷ day (pos 0) 7 ∷ []; week_start = 7 })
    (at (pos 1997) 8 5 9 0 0 ∷ at (pos 1997) 8 17 9 0 0 ∷ at (pos 1997) 8 19 9 0 0 ∷
    at (pos 1997) 8 31 9 0 0 ∷ [])
    (at (pos 1997) 8 10 9 0 0 ∷ at (pos 1997) 8 24 9 0 0 ∷ at (pos 1997) 8 12 9 0 0 ∷ [])
    -- FREQ=WEEKLY from 1997-09-02T09:00:00
    && tells (rule freqs.Weekly (at (pos 1997) 9 2 9 0 0))
    (at (pos 1997) 9 2 9 0 0 ∷ at (pos 1997) 9 9 9 0 0 ∷ [])
    (at (pos 1997) 9 3 9 0 0 ∷ at (pos 1997) 9 9 10 0 0 ∷ at (pos 1997) 8 26 9 0 0 ∷ [])
    -- FREQ=WEEKLY;BYHOUR=8,9;BYMINUTE=15,0;BYSECOND=0,60 from 1997-09-02T09:00:00
    && tells (record (rule freqs.Weekly (at (pos 1997) 9 2 9 0 0)) {
      by_hour = pos 8 ∷ pos 9 ∷ [];
      by_minute = pos 15 ∷ pos 0 ∷ [];
      by_second = pos 0 ∷ pos 60 ∷ [];
    })
    (at (pos 1997) 9 2 9 0 0 ∷ at (pos 1997) 9 2 9 15 0 ∷ at (pos 1997) 9 9 8 0 0 ∷ [])
    (at (pos 1997) 9 2 8 0 0 ∷ at (pos 1997) 9 9 8 1 0 ∷ [])

-- The day of the month of the first moment, unless days are given; days counted from the end.
abbrev pub days_of_month : Bool
days_of_month =
    -- FREQ=MONTHLY from 1997-01-31T09:00:00
    tells (rule freqs.Monthly (at (pos 1997) 1 31 9 0 0))
    (at (pos 1997) 1 31 9 0 0 ∷ at (pos 1997) 3 31 9 0 0 ∷ [])
    (at (pos 1997) 2 28 9 0 0 ∷ at (pos 1997) 4 30 9 0 0 ∷ [])
    -- FREQ=MONTHLY;BYMONTHDAY=-3,1 from 1997-09-28T09:00:00
    && tells (record (rule freqs.Monthly (at (pos 1997) 9 28 9 0 0))
    { by_month_day = neg_ℤ (pos 3) ∷ pos 1 ∷ [] })
    (at (pos 1997) 9 28 9 0 0 ∷ at (pos 1997) 10 29 9 0 0 ∷ at (pos 1997) 10 1 9 0 0 ∷
    at (pos 2000) 2 27 9 0 0 ∷ [])
    (at (pos 1997) 10 28 9 0 0 ∷ at (pos 1997) 10 30 9 0 0 ∷ [])
    -- FREQ=MONTHLY;BYDAY=-2MO,1FR from 1997-09-22T09:00:00
    && tells (record (rule freqs.Monthly (at (pos 1997) 9 22 9 0 0))
    { by_day = day (neg_ℤ (pos 2)) 1 ∷ day (pos 1) 5 ∷ [] })
    (at (pos 1997) 9 22 9 0 0 ∷ at (pos 1997) 10 20 9 0 0 ∷ at (pos 1997) 10 3 9 0 0 ∷ [])
    (at (pos 1997) 10 27 9 0 0 ∷ at (pos 1997) 10 13 9 0 0 ∷ at (pos 1997) 10 10 9 0 0 ∷
    at (pos 1997) 10 21 9 0 0 ∷ [])
    -- FREQ=MONTHLY;BYDAY=-1MO from 2024-01-01T00:00:00
    && tells (record (rule freqs.Monthly (date (pos 2024) 1 1))
    { by_day = day (neg_ℤ (pos 1)) 1 ∷ [] })
    (date (pos 2024) 1 29 ∷ date (pos 2024) 6 24 ∷ [])
    (date (pos 2024) 6 17 ∷ date (pos 2024) 6 23 ∷ [])
    -- FREQ=MONTHLY;BYDAY=TU from 1997-09-02T09:00:00
    && tells (record (rule freqs.Monthly (at (pos 1997) 9 2 9 0 0)) { by_day = day (pos 0) 2 ∷ [] })
    (at (pos 1997) 9 2 9 0 0 ∷ at (pos 1997) 9 9 9 0 0 ∷ at (pos 1997) 10 7 9 0 0 ∷ [])
    (at (pos 1997) 10 2 9 0 0 ∷ [])
    -- FREQ=MONTHLY;INTERVAL=18;BYMONTHDAY=10 from 1997-09-10T09:00:00
    && tells (record (rule freqs.Monthly (at (pos 1997) 9 10 9 0 0))
    { interval = pos 18; by_month_day = pos 10 ∷ [] })
    (at (pos 1997) 9 10 9 0 0 ∷ at (pos 1999) 3 10 9 0 0 ∷ [])
    (at (pos 1998) 9 10 9 0 0 ∷ at (pos 1997) 10 10 9 0 0 ∷ [])

-- The month and the day of the first moment, unless they are given.
abbrev pub dates_of_year : Bool
dates_of_year =
    -- FREQ=YEARLY;INTERVAL=100 from 2000-02-29T00:00:00
    tells (record (rule freqs.Yearly (date (pos 2000) 2 29)) { interval = pos 100 })
    (date (pos 2000) 2 29 ∷ date (pos 2400) 2 29 ∷ [])
    (date (pos 2100) 2 28 ∷ date (pos 2100) 3 1 ∷ date (pos 2004) 2 29 ∷ [])
    -- FREQ=YEARLY from 1997-06-10T09:00:00
    && tells (rule freqs.Yearly (at (pos 1997) 6 10 9 0 0))
    (at (pos 1997) 6 10 9 0 0 ∷ at (pos 1998) 6 10 9 0 0 ∷ [])
    (at (pos 1997) 7 10 9 0 0 ∷ at (pos 1998) 6 11 9 0 0 ∷ [])
    -- FREQ=YEARLY;BYMONTH=6,7 from 1997-06-10T09:00:00
    && tells (record (rule freqs.Yearly (at (pos 1997) 6 10 9 0 0))
    { by_month = pos 6 ∷ pos 7 ∷ [] })
    (at (pos 1997) 6 10 9 0 0 ∷ at (pos 1997) 7 10 9 0 0 ∷ at (pos 1998) 7 10 9 0 0 ∷ [])
    (at (pos 1997) 8 10 9 0 0 ∷ at (pos 1997) 7 11 9 0 0 ∷ [])
    -- FREQ=YEARLY;BYYEARDAY=1,100,-166 from 1997-01-01T09:00:00
    && tells (record (rule freqs.Yearly (at (pos 1997) 1 1 9 0 0))
    { by_year_day = pos 1 ∷ pos 100 ∷ neg_ℤ (pos 166) ∷ [] })
    (at (pos 1997) 1 1 9 0 0 ∷ at (pos 1997) 4 10 9 0 0 ∷ at (pos 1997) 7 19 9 0 0 ∷
    at (pos 2000) 4 9 9 0 0 ∷ at (pos 2000) 7 19 9 0 0 ∷ [])
    (at (pos 1997) 4 11 9 0 0 ∷ at (pos 2000) 4 10 9 0 0 ∷ at (pos 1997) 7 18 9 0 0 ∷ [])
    -- FREQ=YEARLY;BYMONTHDAY=15 from 1997-01-01T09:00:00
    && tells (record (rule freqs.Yearly (at (pos 1997) 1 1 9 0 0)) { by_month_day = pos 15 ∷ [] })
    (at (pos 1997) 1 15 9 0 0 ∷ at (pos 1997) 2 15 9 0 0 ∷ [])
    (at (pos 1997) 1 1 9 0 0 ∷ at (pos 1997) 1 16 9 0 0 ∷ [])

-- The nth weekday of the year, or of the month where months are given.
abbrev pub weekdays_of_year : Bool
weekdays_of_year =
    -- FREQ=YEARLY;BYDAY=20MO from 1997-05-19T09:00:00
    tells (record (rule freqs.Yearly (at (pos 1997) 5 19 9 0 0)) { by_day = day (pos 20) 1 ∷ [] })
    (at (pos 1997) 5 19 9 0 0 ∷ at (pos 1998) 5 18 9 0 0 ∷ at (pos 1999) 5 17 9 0 0 ∷ [])
    (at (pos 1999) 5 10 9 0 0 ∷ at (pos 1998) 5 25 9 0 0 ∷ [])
    -- FREQ=YEARLY;BYDAY=-1SU,53FR from 1997-01-01T09:00:00
    && tells (record (rule freqs.Yearly (at (pos 1997) 1 1 9 0 0))
    { by_day = day (neg_ℤ (pos 1)) 7 ∷ day (pos 53) 5 ∷ [] })
    (at (pos 1997) 12 28 9 0 0 ∷ at (pos 2004) 12 31 9 0 0 ∷ [])
    (at (pos 1997) 12 21 9 0 0 ∷ at (pos 2005) 12 30 9 0 0 ∷ at (pos 1997) 11 30 9 0 0 ∷ [])
    -- FREQ=YEARLY;BYMONTH=3;BYDAY=2TH from 1997-03-13T09:00:00
    && tells (record (rule freqs.Yearly (at (pos 1997) 3 13 9 0 0))
    { by_month = pos 3 ∷ []; by_day = day (pos 2) 4 ∷ [] })
    (at (pos 1997) 3 13 9 0 0 ∷ at (pos 1998) 3 12 9 0 0 ∷ [])
    (at (pos 1997) 3 20 9 0 0 ∷ at (pos 1997) 4 10 9 0 0 ∷ [])
    -- FREQ=YEARLY;BYMONTH=6,7,8;BYDAY=TH from 1997-06-05T09:00:00
    && tells (record (rule freqs.Yearly (at (pos 1997) 6 5 9 0 0))
    { by_month = pos 6 ∷ pos 7 ∷ pos 8 ∷ []; by_day = day (pos 0) 4 ∷ [] })
    (at (pos 1997) 6 5 9 0 0 ∷ at (pos 1997) 7 31 9 0 0 ∷ at (pos 1998) 8 27 9 0 0 ∷ [])
    (at (pos 1997) 9 4 9 0 0 ∷ at (pos 1997) 7 30 9 0 0 ∷ [])

-- Weeks of the week-year by WKST, from the end too, with the weekday of the first moment where no
-- day is given.
abbrev pub weeks_of_year : Bool
weeks_of_year =
    -- FREQ=YEARLY;BYWEEKNO=20;BYDAY=MO from 1997-05-12T09:00:00
    tells (record (rule freqs.Yearly (at (pos 1997) 5 12 9 0 0))
    { by_week = pos 20 ∷ []; by_day = day (pos 0) 1 ∷ [] })
    (at (pos 1997) 5 12 9 0 0 ∷ at (pos 1998) 5 11 9 0 0 ∷ at (pos 1999) 5 17 9 0 0 ∷ [])
    (at (pos 1999) 5 10 9 0 0 ∷ at (pos 1998) 5 12 9 0 0 ∷ [])
    -- FREQ=YEARLY;BYWEEKNO=-1 from 1997-05-12T09:00:00
    && tells (record (rule freqs.Yearly (at (pos 1997) 5 12 9 0 0))
    { by_week = neg_ℤ (pos 1) ∷ [] })
    (at (pos 1997) 12 22 9 0 0 ∷ at (pos 1998) 12 28 9 0 0 ∷ [])
    (at (pos 1998) 12 21 9 0 0 ∷ at (pos 1998) 12 29 9 0 0 ∷ [])
    -- FREQ=YEARLY;BYWEEKNO=1;BYDAY=SU;WKST=SU from 1997-01-01T09:00:00
    && tells (record (rule freqs.Yearly (at (pos 1997) 1 1 9 0 0))
    { by_week = pos 1 ∷ []; by_day = day (pos 0) 7 ∷ []; week_start = 7 })
    (at (pos 2000) 1 2 9 0 0 ∷ [])
    (at (pos 1997) 12 28 9 0 0 ∷ at (pos 2001) 1 7 9 0 0 ∷ at (pos 1999) 12 26 9 0 0 ∷ [])
    -- FREQ=YEARLY;INTERVAL=2;BYWEEKNO=1;BYDAY=MO from 2024-12-30T00:00:00
    && tells (record (rule freqs.Yearly (date (pos 2024) 12 30))
    { interval = pos 2; by_week = pos 1 ∷ []; by_day = day (pos 0) 1 ∷ [] })
    (date (pos 2024) 12 30 ∷ date (pos 2027) 1 4 ∷ date (pos 2029) 1 1 ∷ [])
    (date (pos 2026) 12 28 ∷ date (pos 2028) 12 31 ∷ date (pos 2025) 12 29 ∷ [])

-- Daily, hourly, minutely and secondly rules, with the minute and the second of the first moment
-- where none is given.
abbrev pub days_and_times : Bool
days_and_times =
    -- FREQ=DAILY;INTERVAL=2 from 1997-09-02T09:00:00
    tells (record (rule freqs.Daily (at (pos 1997) 9 2 9 0 0)) { interval = pos 2 })
    (at (pos 1997) 9 2 9 0 0 ∷ at (pos 1997) 9 4 9 0 0 ∷ [])
    (at (pos 1997) 9 3 9 0 0 ∷ at (pos 1997) 9 4 10 0 0 ∷ at (pos 1997) 8 31 9 0 0 ∷ [])
    -- FREQ=DAILY;BYMONTH=1;BYMONTHDAY=-1,-28;BYDAY=WE from 1998-01-01T09:00:00
    && tells (record (rule freqs.Daily (at (pos 1998) 1 1 9 0 0)) {
      by_month = pos 1 ∷ [];
      by_month_day = neg_ℤ (pos 1) ∷ neg_ℤ (pos 28) ∷ [];
      by_day = day (pos 0) 3 ∷ [];
    })
    (at (pos 2001) 1 31 9 0 0 ∷ [])
    (at (pos 2004) 1 4 9 0 0 ∷ at (pos 1998) 1 31 9 0 0 ∷ at (pos 1998) 1 7 9 0 0 ∷
    at (pos 2001) 2 28 9 0 0 ∷ [])
    -- FREQ=HOURLY;INTERVAL=3;BYYEARDAY=245,-121 from 1997-09-02T09:20:05
    && tells (record (rule freqs.Hourly (at (pos 1997) 9 2 9 20 5))
    { interval = pos 3; by_year_day = pos 245 ∷ neg_ℤ (pos 121) ∷ [] })
    (at (pos 1997) 9 2 9 20 5 ∷ at (pos 1997) 9 2 12 20 5 ∷ [])
    (at (pos 1997) 9 2 10 20 5 ∷ at (pos 1997) 9 2 12 20 0 ∷ at (pos 1997) 9 2 12 0 5 ∷
    at (pos 1997) 9 3 0 20 5 ∷ [])
    -- FREQ=MINUTELY;INTERVAL=15;BYHOUR=9,10 from 1997-09-02T09:00:07
    && tells (record (rule freqs.Minutely (at (pos 1997) 9 2 9 0 7))
    { interval = pos 15; by_hour = pos 9 ∷ pos 10 ∷ [] })
    (at (pos 1997) 9 2 9 0 7 ∷ at (pos 1997) 9 2 10 45 7 ∷ [])
    (at (pos 1997) 9 2 9 14 7 ∷ at (pos 1997) 9 2 11 0 7 ∷ at (pos 1997) 9 2 9 15 0 ∷ [])
    -- FREQ=SECONDLY;INTERVAL=90;BYSECOND=0 from 1997-09-02T09:00:00
    && tells (record (rule freqs.Secondly (at (pos 1997) 9 2 9 0 0))
    { interval = pos 90; by_second = pos 0 ∷ [] })
    (at (pos 1997) 9 2 9 0 0 ∷ at (pos 1997) 9 2 9 3 0 ∷ [])
    (at (pos 1997) 9 2 9 1 30 ∷ at (pos 1997) 9 2 9 1 0 ∷ [])

-- UNTIL is the last moment that may be one.
abbrev pub untils : Bool
untils =
    -- FREQ=DAILY;UNTIL=19970904T090000 from 1997-09-02T09:00:00
    tells (record (rule freqs.Daily (at (pos 1997) 9 2 9 0 0))
    { until = Some (record { 0 = at (pos 1997) 9 4 9 0 0 }) })
    (at (pos 1997) 9 2 9 0 0 ∷ at (pos 1997) 9 4 9 0 0 ∷ [])
    (at (pos 1997) 9 5 9 0 0 ∷ [])
    -- FREQ=DAILY;UNTIL=19970904T085959 from 1997-09-02T09:00:00
    && tells (record (rule freqs.Daily (at (pos 1997) 9 2 9 0 0))
    { until = Some (record { 0 = at (pos 1997) 9 4 8 59 59 }) })
    (at (pos 1997) 9 3 9 0 0 ∷ [])
    (at (pos 1997) 9 4 9 0 0 ∷ at (pos 1997) 9 5 9 0 0 ∷ [])

-- Years below 0.
abbrev pub before_year_0 : Bool
before_year_0 =
    -- FREQ=YEARLY;INTERVAL=4 from -0008-02-29T12:00:00
    tells (record (rule freqs.Yearly (at (neg_ℤ (pos 8)) 2 29 12 0 0)) { interval = pos 4 })
    (at (neg_ℤ (pos 8)) 2 29 12 0 0 ∷ at (neg_ℤ (pos 4)) 2 29 12 0 0 ∷ at (pos 0) 2 29 12 0 0 ∷
    at (pos 4) 2 29 12 0 0 ∷ [])
    (at (neg_ℤ (pos 6)) 2 28 12 0 0 ∷ at (neg_ℤ (pos 12)) 2 29 12 0 0 ∷ [])

-- COUNT takes so many of the members, from the first moment on.
abbrev pub counts : Bool
counts =
    -- FREQ=SECONDLY;INTERVAL=2;COUNT=3 from 1997-09-02T09:00:00
    tells_counted (record (rule freqs.Secondly (at (pos 1997) 9 2 9 0 0))
    { interval = pos 2; count = Some (pos 3) })
    (at (pos 1997) 9 2 9 0 0 ∷ at (pos 1997) 9 2 9 0 4 ∷ [])
    (at (pos 1997) 9 2 9 0 5 ∷ at (pos 1997) 9 2 9 0 6 ∷ at (pos 1997) 9 2 8 59 58 ∷ [])
    -- FREQ=MINUTELY;COUNT=2;BYSECOND=10,30 from 1997-09-02T09:00:00
    && tells_counted (record (rule freqs.Minutely (at (pos 1997) 9 2 9 0 0))
    { count = Some (pos 2); by_second = pos 10 ∷ pos 30 ∷ [] })
    (at (pos 1997) 9 2 9 0 10 ∷ at (pos 1997) 9 2 9 0 30 ∷ [])
    (at (pos 1997) 9 2 9 1 10 ∷ at (pos 1997) 9 2 9 0 0 ∷ [])
