-- The library's dates are the dates of the calendar.
use Rattle.std.proofs.Common.{◌≡◌, ℕ, zero, suc, ◌+◌, ◌-◌, ◌%◌, ◌==◌, refl, sym, arith, ℤ, pos, negsuc, ◌+ℤ◌, ◌-ℤ◌, unsigned_abs}
use Rattle.std.specs.Int.{IsInRange}
use Rattle.std.proofs.lemmas.Bool.Decides.{nat_tests}
use Rattle.jiff_core.proofs.SignedLemmas.{signed_arith, one_part}
use Rattle.jiff_core.specs.Calendar.{is_leap_year, days_in_year, days_in_month, days_from_civil, day_count, weekday_number, IsYear, IsDate}
use Rattle.jiff_core.specs.Calendar as library
use Rattle.jiff_core.specs.declared.civil.date.Date.{Date}
use Rattle.jiff_core.specs.Date.{epoch_day, ordinal}
use Rattle.jiff_core.proofs.CalendarLemmas.{days_from_civil-day_count}
use Rattle.moment_core.specs.Calendar as calendar
use Rattle.moment_core.specs.Calendar.{divides, is_leap, year_len, month_len, days_of_months, first_day, day_number, year_of, days_into_year, month_of, day_of_month, weekday_of}
use Rattle.moment_core.proofs.YearLaws.{first_day-next}
use Rattle.moment_core.proofs.DateLaws.{date-of_day_number, month_of-is}

divides-abs4 : (y : ℤ) → divides 4 y ≡ (unsigned_abs y % 4 == 0)
divides-abs4 (pos a) = refl
divides-abs4 (negsuc a) = grind (arith, nat_tests)

divides-abs100 : (y : ℤ) → divides 100 y ≡ (unsigned_abs y % 100 == 0)
divides-abs100 (pos a) = refl
divides-abs100 (negsuc a) = grind (arith, nat_tests)

divides-abs400 : (y : ℤ) → divides 400 y ≡ (unsigned_abs y % 400 == 0)
divides-abs400 (pos a) = refl
divides-abs400 (negsuc a) = grind (arith, nat_tests)

pub is_leap_year-is : (y : ℤ) → is_leap_year y ≡ is_leap y
unfolding is_leap
is_leap_year-is y = rw (divides-abs4 y, divides-abs100 y, divides-abs400 y)

pub days_in_year-is : (y : ℤ) → days_in_year y ≡ year_len y
days_in_year-is y = rw (is_leap_year-is y)

pub days_in_month-is : (y : ℤ) (m : ℕ) → days_in_month y m ≡ month_len (is_leap y) m
days_in_month-is y m = rw (is_leap_year-is y)

days_of_years-is : (n : ℕ) → first_day (pos n -ℤ pos 10_000) ≡ pos (library.days_of_years n) -ℤ pos
    4_371_953
unfolding library.days_of_years calendar.days_of_years first_day
days_of_years-is zero = refl
days_of_years-is (suc n) =
    let next : pos (suc n) -ℤ pos 10_000 ≡ (pos n -ℤ pos 10_000) +ℤ pos 1 =
    omega (arith, signed_arith) in
    let long = days_in_year-is (pos n -ℤ pos 10_000) in
    rw (next, first_day-next (pos n -ℤ pos 10_000))
    (omega (arith, signed_arith, days_of_years-is n))

pub days_of_months-is : (y : ℤ) (n : ℕ) → library.days_of_months y n ≡ days_of_months (is_leap y) n
unfolding library.days_of_months days_of_months
days_of_months-is y zero = refl
days_of_months-is y (suc n) = rw (days_of_months-is y n, days_in_month-is y (suc n))

-- the library's day number is that of the calendar
pub epoch_day-is : (d : Date) → epoch_day d ≡ day_number d.year d.month d.day
unfolding day_count day_number
epoch_day-is d =
    let n = unsigned_abs (d.year +ℤ pos 10_000) in
    let place : pos n -ℤ pos 10_000 ≡ d.year =
    omega (arith, signed_arith, d.year_in, one_part (d.year +ℤ pos 10_000)) in
    let year = rw place at (days_of_years-is n) in
    omega (
      arith,
      signed_arith,
      days_from_civil-day_count d.year d.month d.day,
      days_of_months-is
          d.year (d.month - 1),
    )

pub weekday_number-is : (day : ℤ) → weekday_of day ≡ weekday_number day + 1
unfolding weekday_number weekday_of
weekday_number-is day = refl

-- and its date is the date of the day
pub date-is : (d : Date) → (year_of (epoch_day d) ≡ d.year) × (month_of (epoch_day d) ≡ d.month)
    × (day_of_month (epoch_day d) ≡ d.day)
date-is d = rw (epoch_day-is d) (date-of_day_number d.year d.month d.day d.month_in
    (rw (days_in_month-is d.year d.month) at d.day_in))

-- what the library reads off the date of a day
pub parts-is : (d : Date) (day : ℤ) → epoch_day d ≡ day
    → (d.year ≡ year_of day) × (d.month ≡ month_of day) × (d.day ≡ day_of_month day)
    × (days_in_month d.year d.month ≡ month_len (is_leap (year_of day)) (month_of day))
    × (days_in_year d.year ≡ year_len (year_of day)) × (ordinal d ≡ days_into_year day + 1)
    × (weekday_number (epoch_day d) + 1 ≡ weekday_of day)
parts-is d day e =
    let parts = date-is d in
    let months = days_of_months-is d.year (d.month - 1) in
    let into = rw (parts.0, parts.1, parts.2) at (month_of-is (epoch_day d)).2 in
    let place : ordinal d ≡ days_into_year (epoch_day d) + 1 = omega (arith, into, months) in
    rw (← e) (
      sym parts.0,
      sym parts.1,
      sym parts.2,
      rw (parts.0, parts.1)
          (days_in_month-is d.year d.month),
      rw parts.0 (days_in_year-is d.year),
      place,
      sym
          (weekday_number-is (epoch_day d)),
    )

-- a date of the library is one of the calendar
pub date-in : (d : Date) (y : ℤ) (m k : ℕ) → d.year ≡ y → d.month ≡ m → d.day ≡ k → IsInRange 1 12 m
    × IsInRange 1 (month_len (is_leap y) m) k
date-in d y m k year month day =
    let in_month = rw (days_in_month-is d.year d.month, year, month, day) at d.day_in in
    (rw month at d.month_in, in_month)

pub date_number-is : (d : Date) (y : ℤ) (m k : ℕ) → d.year ≡ y → d.month ≡ m → d.day ≡ k
    → day_number d.year d.month d.day ≡ day_number y m k
date_number-is d y m k year month day = rw (year, month, day)

-- and the other way
pub IsDate-from : (y : ℤ) (m d : ℕ) → IsYear y → IsInRange 1 12 m
    → IsInRange 1 (month_len (is_leap y) m) d → IsDate y (pos m) (pos d)
IsDate-from y m d year in_year in_month =
    let same = days_in_month-is y m in
    (year, omega (arith, signed_arith), omega (arith, signed_arith))
