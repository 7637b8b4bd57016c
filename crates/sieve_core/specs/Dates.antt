-- The parts of a day's date.
use Rattle.std.specs.Prelude.{◌≡◌, ℕ, ◌+◌, ℤ, pos, neg_ℤ, ◌≤ℤ◌}
use Rattle.std.specs.Int.{IsInRange}
use Rattle.moment_core.specs.Calendar.{is_leap, year_len, month_len, year_of, days_into_year, month_of, day_of_month, weekday_of, week_year_of, week_of, weeks_in_year}
use Rattle.civil_core.specs.declared.parts.CivilParts.{CivilParts}

-- these are the parts of the day's date, with weeks that begin on the weekday `first`
pub record AreParts (first : ℕ) (d : ℤ) (p : CivilParts) : Type 0 where
  pub year : p.year ≡ year_of d
  pub month : p.month ≡ month_of d
  pub day : p.day ≡ day_of_month d
  pub weekday : p.weekday ≡ weekday_of d
  pub yearday : p.yearday ≡ days_into_year d + 1
  pub month_len : p.month_len ≡ month_len (is_leap (year_of d)) (month_of d)
  pub year_len : p.year_len ≡ year_len (year_of d)
  pub week : p.week ≡ week_of first d
  pub week_year : p.week_year ≡ week_year_of first d
  pub weeks : p.weeks ≡ weeks_in_year first (week_year_of first d)
  pub in_month : IsInRange 1 p.month_len p.day
  pub in_year : IsInRange 1 p.year_len p.yearday
  pub in_weeks : IsInRange 1 p.weeks p.week
  pub months : IsInRange 1 12 p.month
  pub weekdays : IsInRange 1 7 p.weekday
  pub years_low : neg_ℤ (pos 9990) ≤ℤ p.year
  pub years_high : p.year ≤ℤ pos 9990
  pub week_years_low : neg_ℤ (pos 9990) ≤ℤ p.week_year
  pub week_years_high : p.week_year ≤ℤ pos 9990
