-- What the library's date of the fourth day of a week says of the week.
use Rattle.std.proofs.Common.{◌≡◌, ℕ, ◌+◌, ◌-◌, ◌/◌, ◌%◌, refl, sym, ◌∙◌, arith, ℤ, pos, ◌+ℤ◌, ◌-ℤ◌}
use Rattle.std.specs.Int.{IsInRange}
use Rattle.jiff_core.specs.Calendar.{days_in_year}
use Rattle.jiff_core.specs.declared.civil.date.Date.{Date}
use Rattle.jiff_core.specs.Date.{epoch_day, ordinal}
use Rattle.moment_core.specs.Calendar.{weekday_of, year_of, days_into_year, week_start, week_year_of, week_of, weeks_in_year}
use Rattle.moment_core.proofs.YearLaws.{year_len_bounds}
use Rattle.moment_core.proofs.DateLaws.{days_into_year-is}
use Rattle.moment_core.proofs.WeekLaws.{week_of-fourth, weeks_in_year-fourth}
use Rattle.civil_core.proofs.LibraryDates.{parts-is}

-- back to the first day of the week by the library's weekdays, from 0 for Monday
pub week_start-back : (first weekday : ℕ) (day : ℤ) → weekday_of day ≡ weekday + 1
    → week_start (first + 1) day ≡ day -ℤ pos ((weekday + 7 - first) % 7)
unfolding week_start
week_start-back first weekday day e =
    let same : weekday + 1 + 7 - (first + 1) ≡ weekday + 7 - first = omega arith in
    rw (e, same)

-- a date has a place in its year
pub ordinal-within : (d : Date) → IsInRange 1 (days_in_year d.year) (ordinal d)
    × IsInRange 365 366 (days_in_year d.year)
ordinal-within d =
    let p = parts-is d (epoch_day d) refl in
    let within = (days_into_year-is (epoch_day d)).1 in
    let long = year_len_bounds (year_of (epoch_day d)) in
    ((omega arith, omega arith), (omega arith, omega arith))

-- week, week-year and weeks by the place of the fourth day in its year
pub fourth-is : (d : Date) (first : ℕ) (day : ℤ) → IsInRange 1 7 first → epoch_day d
    ≡ week_start first day +ℤ pos 3
    → (d.year ≡ week_year_of first day) × (week_of first day ≡ (ordinal d - 1) / 7 + 1)
    × (weeks_in_year first (week_year_of first day) ≡ (ordinal d - 1) / 7 + 1 +
    (days_in_year d.year - 1 - (ordinal d - 1)) / 7)
fourth-is d first day h e =
    let fourth = week_start first day +ℤ pos 3 in
    let p = parts-is d fourth e in
    let same : week_year_of first day ≡ year_of fourth = unfold week_year_of in refl in
    let week = week_of-fourth first day h in
    let weeks = rw same at (weeks_in_year-fourth first day h) in
    let back : days_into_year fourth + 1 - 1 ≡ days_into_year fourth = omega arith in
    (p.0 ∙ sym same, rw (p.5, back) week, rw (same, p.5, p.4, back) weeks)
