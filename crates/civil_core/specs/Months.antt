-- The months of the calendar, and their days.
use Rattle.std.specs.Prelude.{◌≡◌, ◌≤◌, ℕ, ◌+◌, ◌-◌, ◌%◌, ℤ, pos, neg_ℤ, ◌≤ℤ◌}
use Rattle.std.specs.Int.{IsInRange}
use Rattle.moment_core.specs.Calendar.{is_leap, month_len, days_of_months, day_number, year_of, month_of, day_of_month, days_into_year, weekday_of}
use Rattle.civil_core.specs.declared.months.CivilMonth.{CivilMonth}

-- the parts of a month fit together
pub record IsMonth (m : CivilMonth) : Type 0 where
  pub month : IsInRange 1 12 m.month
  pub leap : m.leap ≡ is_leap m.year
  pub first : m.first ≡ day_number m.year m.month 1
  pub weekday : m.weekday ≡ weekday_of m.first
  pub len : m.len ≡ month_len m.leap m.month
  pub before : m.before ≡ days_of_months m.leap (m.month - 1)
  pub weekdays : IsInRange 1 7 m.weekday
  pub lens : IsInRange 28 31 m.len
  pub befores : m.before ≤ 335

-- not far from the working range
pub record IsNearMonth (m : CivilMonth) : Type 0 where
  pub low : neg_ℤ (pos 4_400_000) ≤ℤ m.first
  pub high : m.first ≤ℤ pos 4_400_000
  pub years_low : neg_ℤ (pos 9990) ≤ℤ m.year
  pub years_high : m.year ≤ℤ pos 9990

-- what day i of a month is, the first one being 0
pub record IsDayIn (m : CivilMonth) (i : ℕ) (d : ℤ) : Type 0 where
  pub year : year_of d ≡ m.year
  pub leap : is_leap (year_of d) ≡ m.leap
  pub month : month_of d ≡ m.month
  pub day : day_of_month d ≡ i + 1
  pub into : days_into_year d ≡ m.before + i
  pub weekday : weekday_of d ≡ (m.weekday + i + 6) % 7 + 1
  pub len : month_len (is_leap (year_of d)) (month_of d) ≡ m.len
