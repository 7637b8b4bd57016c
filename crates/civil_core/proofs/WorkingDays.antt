-- The years of the days of the working range.
use Rattle.std.proofs.Common.{ℕ, arith, ℤ, pos, neg_ℤ, ◌+ℤ◌, ◌≤ℤ◌}
use Rattle.std.specs.Int.{IsInRange}
use Rattle.jiff_core.proofs.SignedLemmas.{signed_arith}
use Rattle.jiff_core.specs.Calendar.{IsYear}
use Rattle.moment_core.specs.Calendar.{year_of, week_start, week_year_of}
use Rattle.moment_core.specs.TimeOfDay.{IsCivil, seconds_of}
use Rattle.moment_core.specs.Line.{IsWorkingMoment}
use Rattle.moment_core.proofs.TimeLaws.{working-days, year_of-from, year_of-below, years-of_working_moment, fields-of_seconds}
use Rattle.moment_core.proofs.WeekLaws.{week_start-is}
use Rattle.civil_core.specs.Days.{IsWorkingDay}

pub years-of_working_day : (day : ℤ) → IsWorkingDay day → (neg_ℤ (pos 9990) ≤ℤ year_of day)
    × (year_of day ≤ℤ pos 9990)
years-of_working_day day h =
    let ends = working-days in (
      year_of-from day (neg_ℤ (pos 9990)) (omega (arith, signed_arith)),
      year_of-below day (pos 9990)
          (omega (arith, signed_arith)),
    )

-- and of their weeks, which begin at most six days before
pub week_years-of_working_day : (first : ℕ) (day : ℤ) → IsInRange 1 7 first → IsWorkingDay day
    → (neg_ℤ (pos 9990) ≤ℤ week_year_of first day) × (week_year_of first day ≤ℤ pos 9990)
unfolding week_year_of
week_years-of_working_day first day h working =
    let ends = working-days in
    let start = week_start-is first day h in
    let fourth = week_start first day +ℤ pos 3 in (
      year_of-from fourth (neg_ℤ (pos 9990)) (omega (arith, signed_arith)),
      year_of-below fourth
          (pos 9990) (omega (arith, signed_arith)),
    )

-- a date of the working range is of a year that the library has
pub IsYear-of_civil : (y : ℤ) (m d h n s : ℕ) → IsCivil y m d h n s
    → IsWorkingMoment (seconds_of y m d h n s) → IsYear y
IsYear-of_civil y m d h n s civil working =
    let year = (fields-of_seconds y m d h n s civil).0 in
    let years = years-of_working_moment (seconds_of y m d h n s) working in
    let years_of = rw year at years in
    (omega (arith, signed_arith), omega (arith, signed_arith))
