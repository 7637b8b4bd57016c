-- How the day of a date and the date of a day go together.
use Rattle.std.proofs.Common.{◌≡◌, ℕ, suc, ◌+◌, ◌-◌, ◌<◌, ◌≤◌, Bool, true, false, cond, refl, ap, ◌∙◌, arith, ℤ, pos, ◌+ℤ◌, ◌-ℤ◌, ◌≤ℤ◌}
use Rattle.std.specs.Int.{IsInRange}
use Rattle.std.proofs.lemmas.Int.{by_lt_z}
use Rattle.moment_core.proofs.FloorLemmas.{floor_arith, one_part}
use Rattle.moment_core.specs.Calendar.{is_leap, year_len, month_len, days_of_months, first_day, day_number, last_begun, year_of, days_into_year, month_of, day_of_month, weekday_of, month_number}
use Rattle.moment_core.proofs.YearLaws.{mono, last_begun_mono, year_of_mono, last_begun-is, last_begun-unique, first_day-next, year_len_bounds, year_of-is, year_of-unique, year_of-cycle, first_day-cycle, is_leap-cycle}

pub days_of_months-zero : (leap : Bool) → days_of_months leap 0 ≡ 0
unfolding days_of_months
days_of_months-zero leap = refl

pub days_of_months-suc : (leap : Bool) (n : ℕ) → days_of_months leap (suc n) ≡ days_of_months leap n
    + month_len leap (suc n)
unfolding days_of_months
days_of_months-suc leap n = refl

pub days_of_months-step : (leap : Bool) (n : ℕ) → days_of_months leap n ≤ days_of_months leap
    (suc n)
days_of_months-step leap n = omega (arith, days_of_months-suc leap n)

-- twelve months are a year
pub days_of_months-year : (y : ℤ) → days_of_months (is_leap y) 12 ≡ year_len y
unfolding days_of_months
days_of_months-year y =
    elim (is_leap y) as (λ b. days_of_months b 12 ≡ cond b 366 365) [ true ↦ refl | false ↦ refl ]

-- the days of the year that have passed, as a sum
pub days_into_year-is : (day : ℤ) → (first_day (year_of day) +ℤ pos (days_into_year day) ≡ day)
    × (days_into_year day < year_len (year_of day))
unfolding days_into_year
days_into_year-is day =
    let y = year_of-is day in
    let next = first_day-next (year_of day) in (
      omega (arith, floor_arith, one_part (day -ℤ first_day (year_of day))),
      omega
          (arith, floor_arith, one_part (day -ℤ first_day (year_of day))),
    )

pub days_into_year-unique : (day y : ℤ) (n : ℕ) → n < year_len y → day ≡ first_day y +ℤ pos n
    → (year_of day ≡ y) × (days_into_year day ≡ n)
days_into_year-unique day y n h e =
    let next = first_day-next y in
    let year = year_of-unique day y (omega (arith, floor_arith)) (omega (arith, floor_arith)) in
    let first = ap first_day year in
    let is = (days_into_year-is day).0 in
    (year, omega (arith, floor_arith))

-- the month of a day
pub month_of-is : (day : ℤ) → IsInRange 1 12 (month_of day)
    × IsInRange 1 (month_len (is_leap (year_of day)) (month_of day)) (day_of_month day)
    × (days_of_months (is_leap (year_of day)) (month_of day - 1) + day_of_month day
    ≡ days_into_year day + 1)
unfolding month_of day_of_month
month_of-is day =
    let leap = is_leap (year_of day) in
    let n = days_into_year day in
    let k = last_begun (days_of_months leap) 11 n in
    let in_year = (days_into_year-is day).1 in
    let is = last_begun-is (days_of_months leap) 11 n (days_of_months-zero leap)
    (omega (arith, days_of_months-year (year_of day))) in
    let back : k + 1 - 1 ≡ k = omega arith in
    let ahead : k + 1 ≡ suc k = omega arith in
    let next = days_of_months-suc leap k in
    rw (back, ahead) ((omega arith, omega arith), (omega arith, omega arith), omega arith)

-- the date of a day names it
pub day_number-of : (day : ℤ) → day_number (year_of day) (month_of day) (day_of_month day) ≡ day
unfolding day_number
day_number-of day =
    omega (arith, floor_arith, month_of-is day, days_into_year-is day)

-- and a date is the date of its day: it names one day only
pub date-of_day_number : (y : ℤ) (m d : ℕ) → IsInRange 1 12 m
    → IsInRange 1 (month_len (is_leap y) m) d
    → (year_of (day_number y m d) ≡ y) × (month_of (day_number y m d) ≡ m)
    × (day_of_month (day_number y m d) ≡ d)
unfolding day_number month_of day_of_month
date-of_day_number y m d in_year in_month =
    let leap = is_leap y in
    let n = days_of_months leap (m - 1) + d - 1 in
    let ahead : suc (m - 1) ≡ m = omega arith in
    let next = rw ahead at (days_of_months-suc leap (m - 1)) in
    let rest = mono (days_of_months leap) (days_of_months-step leap) m 12 in_year.1 in
    let u = days_into_year-unique (first_day y +ℤ pos n) y n (omega (arith, days_of_months-year y))
    refl in
    let before : n < days_of_months leap (suc (m - 1)) = rw ahead (omega arith) in
    let found = last_begun-unique (days_of_months leap) (days_of_months-step leap) 11 n (m - 1)
    (omega arith) (omega arith) before in
    let back : m - 1 + 1 ≡ m = omega arith in
    rw (u.0, u.1, found, back) (refl, refl, omega arith)

-- a cycle later month, day and weekday are the same
pub days_into_year-cycle : (day : ℤ) → days_into_year (day +ℤ pos 146_097) ≡ days_into_year day
days_into_year-cycle day =
    let is = days_into_year-is day in
    let later = days_into_year-is (day +ℤ pos 146_097) in
    let year = ap first_day (year_of-cycle day) ∙ first_day-cycle (year_of day) in
    omega (arith, floor_arith)

pub month_of-cycle : (day : ℤ) → month_of (day +ℤ pos 146_097) ≡ month_of day
unfolding month_of
month_of-cycle day = rw (days_into_year-cycle day, year_of-cycle day, is_leap-cycle (year_of day))

pub day_of_month-cycle : (day : ℤ) → day_of_month (day +ℤ pos 146_097) ≡ day_of_month day
unfolding day_of_month
day_of_month-cycle day = rw (
  month_of-cycle day,
  days_into_year-cycle day,
  year_of-cycle day,
  is_leap-cycle (year_of day),
)

pub weekday_of-cycle : (day : ℤ) → weekday_of (day +ℤ pos 146_097) ≡ weekday_of day
unfolding weekday_of
weekday_of-cycle day = omega (arith, floor_arith)

pub month_len_bounds : (leap : Bool) (m : ℕ) → (28 ≤ month_len leap m) × (month_len leap m ≤ 31)
month_len_bounds leap m = grind arith

-- how large the parts of a date are
pub part_bounds : (day : ℤ) → (month_len (is_leap (year_of day)) (month_of day) ≤ 31)
    × (year_len (year_of day) ≤ 366) × (days_into_year day + 1 ≤ 366) × (day_of_month day ≤ 31)
part_bounds day =
    let long = month_len_bounds (is_leap (year_of day)) (month_of day) in
    let year = year_len_bounds (year_of day) in
    let in_month = (month_of-is day).1 in
    let in_year = (days_into_year-is day).1 in
    (omega arith, omega arith, omega arith, omega arith)

pub month_of_mono : (day later : ℤ) → year_of day ≡ year_of later → days_into_year day ≤
    days_into_year later → month_of day ≤ month_of later
unfolding month_of
month_of_mono day later same h =
    rw same (omega (
      arith,
      last_begun_mono (days_of_months (is_leap (year_of later))) 11
          (days_into_year day) (days_into_year later) h,
    ))

-- a later day has no earlier month
pub month_number_mono : (day later : ℤ) → day ≤ℤ later → month_number day ≤ℤ month_number later
unfolding month_number
month_number_mono day later h =
    let y = year_of day in
    let z = year_of later in
    let years = year_of_mono day later h in
    let a = month_of-is day in
    let b = month_of-is later in
    by_lt_z y z (λ lt. omega (arith, floor_arith))
    (λ ge.
    let same : y ≡ z = omega (arith, floor_arith) in
    let into : days_into_year day ≤ days_into_year later =
    omega (arith, floor_arith, days_into_year-is day, days_into_year-is later, ap first_day same) in
    let months = month_of_mono day later same into in
    omega (arith, floor_arith))
