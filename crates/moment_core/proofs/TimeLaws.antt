-- Moments as days and times of day, and the years of the two ranges.
use Rattle.std.proofs.Common.{◌≡◌, ℕ, ◌+◌, ◌*◌, ◌<◌, refl, arith, ℤ, pos, neg_ℤ, ◌+ℤ◌, ◌*ℤ◌, ◌<ℤ◌, ◌≤ℤ◌}
use Rattle.std.proofs.lemmas.Int.{by_lt_z}
use Rattle.moment_core.specs.declared.line.TheConstants.{G}
use Rattle.moment_core.specs.Calendar as calendar
use Rattle.moment_core.specs.Calendar.{is_leap, first_day, day_number, year_of, month_of, day_of_month}
use Rattle.moment_core.specs.TimeOfDay.{day_of, hour_of, minute_of, second_of, second_of_day, seconds_of, IsCivil}
use Rattle.moment_core.specs.Line.{IsCalendarMoment, IsWorkingMoment}
use Rattle.moment_core.proofs.FloorLemmas.{floor_arith}
use Rattle.moment_core.proofs.YearLaws.{first_day_mono, year_of-is}
use Rattle.moment_core.proofs.DateLaws.{month_of-is, day_number-of, date-of_day_number}

-- the day and the time of day of a sum
pub seconds-parts : (day : ℤ) (n : ℕ) → n < 86_400 → (day_of (day *ℤ pos 86_400 +ℤ pos n) ≡ day)
    × (second_of_day (day *ℤ pos 86_400 +ℤ pos n) ≡ n)
seconds-parts day n h = (omega (arith, floor_arith), omega (arith, floor_arith))

-- 400 years of seconds later
pub day_of-cycle : (t : ℤ) → (day_of (t +ℤ pos G) ≡ day_of t +ℤ pos 146_097)
    × (second_of_day (t +ℤ pos G) ≡ second_of_day t)
day_of-cycle t = (omega (arith, floor_arith), omega (arith, floor_arith))

-- a moment has a date and a time of day
pub IsCivil-fields : (t : ℤ) → IsCivil (year_of (day_of t)) (month_of (day_of t))
    (day_of_month (day_of t)) (hour_of t) (minute_of t) (second_of t)
IsCivil-fields t =
    let date = month_of-is (day_of t) in
    let time : second_of_day t < 86_400 = omega (arith, floor_arith) in (
      date.0,
      date.1,
      (omega arith, omega arith),
      (omega arith, omega arith),
      (omega arith, omega arith),
    )

-- which name it
pub seconds_of-fields : (t : ℤ) → seconds_of (year_of (day_of t)) (month_of (day_of t))
    (day_of_month (day_of t)) (hour_of t) (minute_of t) (second_of t) ≡ t
seconds_of-fields t = rw (day_number-of (day_of t)) (omega (arith, floor_arith))

-- and a date with a time of day names one moment
pub seconds_of-parts : (y : ℤ) (m d h n s : ℕ) → IsCivil y m d h n s
    → (day_of (seconds_of y m d h n s) ≡ day_number y m d) × (hour_of (seconds_of y m d h n s) ≡ h)
    × (minute_of (seconds_of y m d h n s) ≡ n) × (second_of (seconds_of y m d h n s) ≡ s)
seconds_of-parts y m d h n s civil =
    let time : h * 3600 + n * 60 + s < 86_400 = omega arith in
    let p = seconds-parts (day_number y m d) (h * 3600 + n * 60 + s) time in
    rw (p.0, p.1) (refl, omega arith, omega arith, omega arith)

pub fields-of_seconds : (y : ℤ) (m d h n s : ℕ) → IsCivil y m d h n s
    → (year_of (day_of (seconds_of y m d h n s)) ≡ y) × (month_of (day_of (seconds_of y m d h n s))
    ≡ m)
    × (day_of_month (day_of (seconds_of y m d h n s)) ≡ d) × (hour_of (seconds_of y m d h n s) ≡ h)
    × (minute_of (seconds_of y m d h n s) ≡ n) × (second_of (seconds_of y m d h n s) ≡ s)
fields-of_seconds y m d h n s civil =
    let p = seconds_of-parts y m d h n s civil in
    let date = date-of_day_number y m d civil.0 civil.1 in
    rw p.0 (date.0, date.1, date.2, p.1, p.2, p.3)

-- the days on which the two ranges lie
range-days : (first_day (neg_ℤ (pos 9900)) ≡ neg_ℤ (pos 4_335_428))
    × (first_day (pos 9901) ≡ pos 2_896_738)
unfolding first_day calendar.days_of_years is_leap
range-days = (refl, refl)

pub working-days : (first_day (neg_ℤ (pos 9990)) ≡ neg_ℤ (pos 4_368_300))
    × (first_day (pos 9991) ≡ pos 2_929_610)
unfolding first_day calendar.days_of_years is_leap
working-days = (refl, refl)

-- a day lies in years from one to another exactly if it lies from the first day of the one to the
-- last of the other
pub year_of-from : (day y : ℤ) → first_day y ≤ℤ day → y ≤ℤ year_of day
year_of-from day y low =
    by_lt_z (year_of day) y
    (λ lt. absurd (
    let mono = first_day_mono (year_of day +ℤ pos 1) y (omega (arith, floor_arith)) in
    omega (arith, floor_arith, year_of-is day)))
    (λ ge. ge)

pub year_of-below : (day y : ℤ) → day <ℤ first_day (y +ℤ pos 1) → year_of day ≤ℤ y
year_of-below day y high =
    by_lt_z y (year_of day)
    (λ lt. absurd (
    let mono = first_day_mono (y +ℤ pos 1) (year_of day) (omega (arith, floor_arith)) in
    omega (arith, floor_arith, year_of-is day)))
    (λ ge. ge)

-- the calendar range is of the years from -9900 to 9900
pub years-of_calendar_moment : (t : ℤ) → IsCalendarMoment t
    → (neg_ℤ (pos 9900) ≤ℤ year_of (day_of t)) × (year_of (day_of t) ≤ℤ pos 9900)
years-of_calendar_moment t h =
    let days = range-days in (
      year_of-from (day_of t) (neg_ℤ (pos 9900)) (omega (arith, floor_arith)),
      year_of-below
          (day_of t) (pos 9900) (omega (arith, floor_arith)),
    )

pub IsCalendarMoment-of_years : (t : ℤ) → (neg_ℤ (pos 9900) ≤ℤ year_of (day_of t))
    × (year_of (day_of t) ≤ℤ pos 9900) → IsCalendarMoment t
IsCalendarMoment-of_years t h =
    let y = year_of (day_of t) in
    let days = range-days in
    let is = year_of-is (day_of t) in
    let low = first_day_mono (neg_ℤ (pos 9900)) y h.0 in
    let high = first_day_mono (y +ℤ pos 1) (pos 9901) (omega (arith, floor_arith)) in
    (omega (arith, floor_arith), omega (arith, floor_arith))

-- and the working range lies in those from -9990 to 9990
pub years-of_working_moment : (t : ℤ) → IsWorkingMoment t → (neg_ℤ (pos 9990) ≤ℤ year_of (day_of t))
    × (year_of (day_of t) ≤ℤ pos 9990)
years-of_working_moment t h =
    let days = working-days in (
      year_of-from (day_of t) (neg_ℤ (pos 9990)) (omega (arith, floor_arith)),
      year_of-below
          (day_of t) (pos 9990) (omega (arith, floor_arith)),
    )
