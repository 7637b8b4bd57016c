-- A field rule is met again after as many times 400 years as hold a whole number of its intervals.
use Rattle.std.proofs.Common.{◌≡◌, ℕ, ◌*◌, ◌<◌, suc, zero, ap, ◌∙◌, refl, arith, ℤ, pos, ◌+ℤ◌, ◌-ℤ◌, unsigned_abs}
use Rattle.std.proofs.lemmas.Int.{ints}
use Rattle.moment_core.proofs.CycleLaws.{divides-multiple, later-more, later-none, unit_of-cycles}
use Rattle.moment_core.proofs.DateLaws.{days_into_year-cycle, month_of-cycle, day_of_month-cycle, weekday_of-cycle}
use Rattle.moment_core.proofs.TimeLaws.{day_of-cycle}
use Rattle.moment_core.proofs.WeekLaws.{week_year_of-cycle, week_of-cycle, weeks_in_year-cycle}
use Rattle.moment_core.proofs.YearLaws.{is_leap-cycle, year_of-cycle}
use Rattle.moment_core.specs.Calendar.{is_leap, year_of, week_year_of, weeks_in_year}
use Rattle.moment_core.specs.TimeOfDay.{day_of}
use Rattle.moment_core.specs.Units.{unit_of, units_of}
use Rattle.moment_core.specs.declared.line.TheConstants.{G}
use Rattle.rule_core.specs.FieldChecks.{counted}
use Rattle.rule_core.specs.FieldMembers.{field_unit, first_weekday, has_field, meets_day, meets_fields, meets_time, start_of}
use Rattle.rule_core.specs.declared.field.Counted.{Counted}
use Rattle.rule_core.specs.declared.field.Counted.TheVariants.{OfYear, OfMonth, OfWeek, Never}
use Rattle.rule_core.specs.declared.field.FieldRule.{FieldRule}

pub leap-cycle : (day : ℤ) → is_leap (year_of (day +ℤ pos 146_097)) ≡ is_leap (year_of day)
leap-cycle day = ap is_leap (year_of-cycle day) ∙ is_leap-cycle (year_of day)

pub weeks-cycle : (first : ℕ) (day : ℤ)
    → weeks_in_year first (week_year_of first (day +ℤ pos 146_097))
    ≡ weeks_in_year first (week_year_of first day)
weeks-cycle first day = ap (weeks_in_year first) (week_year_of-cycle first day)
    ∙ weeks_in_year-cycle first (week_year_of first day)

-- the day's tests
meets_day-cycle : (c : Counted) (r : FieldRule) (day : ℤ) → meets_day c r (day +ℤ pos 146_097)
    ≡ meets_day c r day
unfolding meets_day
meets_day-cycle OfYear r day = rw (leap-cycle day, days_into_year-cycle day) refl
meets_day-cycle OfMonth r day = rw (month_of-cycle day, leap-cycle day, day_of_month-cycle day) refl
meets_day-cycle OfWeek r day =
    let first = first_weekday r.week_start in
    rw (weeks-cycle first day, week_of-cycle first day, weekday_of-cycle day) refl
meets_day-cycle Never r day = refl

-- the time of day
meets_time-cycle : (r : FieldRule) (t : ℤ) → meets_time r (t +ℤ pos G) ≡ meets_time r t
unfolding meets_time
meets_time-cycle r t = rw ((day_of-cycle t).1) refl

fields-cycle : (r : FieldRule) (t : ℤ) → meets_fields r (t +ℤ pos G) ≡ meets_fields r t
fields-cycle r t =
    let place = day_of-cycle t in
    rw (meets_time-cycle r t, place.0, meets_day-cycle (counted r) r (day_of t)) refl

fields-cycles : (r : FieldRule) (t : ℤ) (m : ℕ) → meets_fields r (t +ℤ pos (m * G))
    ≡ meets_fields r t
fields-cycles r t zero = ap (meets_fields r) (later-none t G)
fields-cycles r t (suc m) = ap (meets_fields r) (later-more t m G)
    ∙ fields-cycle r (t +ℤ pos (m * G)) ∙ fields-cycles r t m

-- the whole rule
pub has_field-cycles : (r : FieldRule) (t : ℤ) (m j : ℕ) → 0 < unsigned_abs r.interval
    → m * units_of (field_unit r) ≡ j * unsigned_abs r.interval → has_field r (t +ℤ pos (m * G))
    ≡ has_field r t
unfolding has_field
has_field-cycles r t m j some e =
    let n = unsigned_abs r.interval in
    let here = unit_of (field_unit r) t in
    let start = unit_of (field_unit r) (start_of r.start) in
    let number : unit_of (field_unit r) (t +ℤ pos (m * G)) -ℤ start ≡ (here -ℤ start) +ℤ pos
    (j * n) = rw (unit_of-cycles (field_unit r) t m, e) (omega (arith, ints)) in
    rw (fields-cycles r t m, number, divides-multiple n (here -ℤ start) j some) refl
