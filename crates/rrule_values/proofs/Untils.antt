-- The moments that UNTIL names are found 400 years earlier.
use Rattle.std.proofs.Common.{◌≡◌, ℕ, suc, ◌^◌, w32, to_z, of_z, ◌<◌, ◌≤◌, ℤ, pos, neg_ℤ, ◌+ℤ◌, ◌-ℤ◌, ◌≤ℤ◌, Bool, true, false, ◌&&◌, nat_le, refl, sym, ap, ◌∙◌, arith}
use Rattle.std.specs.Prelude.{negsuc, unsigned_abs, if◌then◌else◌}
use Rattle.std.specs.Int.{IsInRange}
use Rattle.std.proofs.lemmas.Bool.Decides.{nat_tests}
use Rattle.std.proofs.lemmas.Int.{fits_signed_from_abs, ints, to_z-of_z}
use Rattle.moment_core.specs.declared.line.TheConstants.{G}
use Rattle.moment_core.specs.Calendar.{day_number, day_of_month, days_of_years, first_day, is_leap, month_len, month_of, year_of}
use Rattle.moment_core.specs.Line.{IsWorkingMoment}
use Rattle.moment_core.specs.TimeOfDay.{IsCivil, day_of, second_of_day, seconds_of}
use Rattle.moment_core.proofs.DateLaws.{day_of_month-cycle, month_of-cycle}
use Rattle.moment_core.proofs.FloorLemmas.{floor_arith}
use Rattle.moment_core.proofs.TimeLaws.{day_of-cycle, fields-of_seconds, IsCalendarMoment-of_years, year_of-below, year_of-from}
use Rattle.moment_core.proofs.YearLaws.{first_day-cycle, is_leap-cycle, year_of-cycle}
use Rattle.rrule_values.specs.Until.{is_civil, named, past_the_years}

-- the test, in a month of so many days
abbrev passes : (month day days hour minute second : ℕ) → Bool
passes month day days hour minute second =
    nat_le 1 month && nat_le month 12 && nat_le 1 day && nat_le day days
    && nat_le hour 23 && nat_le minute 59 && nat_le second 59

abbrev AreCivil : (month day days hour minute second : ℕ) → Type 0
AreCivil month day days hour minute second =
    IsInRange 1 12 month × IsInRange 1 days day × IsInRange 0 23 hour × IsInRange 0 59 minute
    × IsInRange 0 59 second

says : (month day days hour minute second : ℕ) → passes month day days hour minute second ≡ true
    → AreCivil month day days hour minute second
says month day days hour minute second e = (
  (grind (arith, nat_tests), grind (arith, nat_tests)),
  (grind (arith, nat_tests), grind (arith, nat_tests)),
  (omega arith, grind (arith, nat_tests)),
  (omega arith, grind (arith, nat_tests)),
  (omega arith, grind (arith, nat_tests)),
)

said : (month day days hour minute second : ℕ) → AreCivil month day days hour minute second
    → passes month day days hour minute second ≡ true
said month day days hour minute second h =
    let a = h.0.0 in
    let b = h.0.1 in
    let c = h.1.0 in
    let d = h.1.1 in
    let f = h.2.1 in
    let g = h.3.1 in
    let i = h.4.1 in
    grind (arith, nat_tests)

module _ (year month day hour minute second : ℕ) where
  earlier : pos year -ℤ pos 400 +ℤ pos 400 ≡ pos year
  earlier = omega (arith, floor_arith)

  leap_same : is_leap (pos year -ℤ pos 400) ≡ is_leap (pos year)
  leap_same = sym (is_leap-cycle (pos year -ℤ pos 400)) ∙ ap is_leap earlier

  cycle : seconds_of (pos year -ℤ pos 400) month day hour minute second +ℤ pos G
      ≡ seconds_of (pos year) month day hour minute second
  unfolding day_number
  cycle =
      let first : first_day (pos year) ≡ first_day (pos year -ℤ pos 400) +ℤ pos 146_097 =
      ap first_day (sym earlier) ∙ first_day-cycle (pos year -ℤ pos 400) in
      rw (leap_same, first) (omega (arith, floor_arith))

  pub named-civil : IsCivil (pos year) month day hour minute second → named year month day hour
      minute second ≡ seconds_of (pos year) month day hour minute second
  unfolding named
  named-civil civil = rw (said month day (month_len (is_leap (pos year)) month) hour minute second
      civil) refl

  module _ (early : ℤ) (is_early : early ≡ pos year -ℤ pos 400) where
    pub named-found : IsCivil early month day hour minute second
        → seconds_of early month day hour minute second +ℤ pos G ≡ named year month day hour minute
        second
    named-found civil =
        let there : IsCivil (pos year -ℤ pos 400) month day hour minute second =
        rw is_early at civil in
        let here : IsCivil (pos year) month day hour minute second = rw leap_same at there in
        rw is_early (cycle ∙ sym (named-civil here))

    pub named-lost : year ≤ 9999 → (IsCivil early month day hour minute second
        × IsWorkingMoment (seconds_of early month day hour minute second) → ⊥)
        → named year month day hour minute second ≡ past_the_years
    unfolding named
    named-lost le none = by_test (is_civil year month day hour minute second) refl
      where
        working : IsCivil (pos year -ℤ pos 400) month day hour minute second
            → IsWorkingMoment (seconds_of (pos year -ℤ pos 400) month day hour minute second)
        working civil =
            let y = (fields-of_seconds (pos year -ℤ pos 400) month day hour minute second
            civil).0 in
            let calendar = IsCalendarMoment-of_years (seconds_of (pos year -ℤ pos 400) month day
            hour minute second) (rw y (omega (arith, floor_arith), omega (arith, floor_arith))) in
            (omega (arith, floor_arith, calendar.0), omega (arith, floor_arith, calendar.1))

        by_test : (b : Bool) → is_civil year month day hour minute second ≡ b
            → (if b then seconds_of (pos year) month day hour minute second else past_the_years)
            ≡ past_the_years
        by_test true e =
            let civil : IsCivil (pos year) month day hour minute second =
            says month day (month_len (is_leap (pos year)) month) hour minute second e in
            let back : IsCivil (pos year -ℤ pos 400) month day hour minute second =
            rw (sym leap_same) at civil in
            absurd (none (rw is_early (back, working back)))
        by_test false e = refl

-- 400 years earlier the date and the time of day are the same
pub record IsEarlier (t early : ℤ) : Type 0 where
  pub year : year_of (day_of t) ≡ year_of (day_of early) +ℤ pos 400
  pub month : month_of (day_of t) ≡ month_of (day_of early)
  pub day : day_of_month (day_of t) ≡ day_of_month (day_of early)
  pub time : second_of_day t ≡ second_of_day early

pub is_earlier : (t early : ℤ) → early ≡ t -ℤ pos G → IsEarlier t early
is_earlier t early is =
    let back : t ≡ early +ℤ pos G = omega (arith, floor_arith) in
    let parts = day_of-cycle early in
    let day : day_of t ≡ day_of early +ℤ pos 146_097 = ap day_of back ∙ parts.0 in
    record {
      year = ap year_of day ∙ year_of-cycle (day_of early);
      month = ap month_of day ∙ month_of-cycle (day_of early);
      day = ap day_of_month day ∙ day_of_month-cycle (day_of early);
      time = ap second_of_day back ∙ parts.1;
    }

-- a moment of the years 0000 to 9999
abbrev pub IsOfYears : ℤ → Type 0
IsOfYears t = (neg_ℤ (pos 62_167_219_200) ≤ℤ t) × (t ≤ℤ pos 253_402_300_799)

year_days : (first_day (pos 0) ≡ neg_ℤ (pos 719_528)) × (first_day (pos 10_000) ≡ pos 2_932_897)
unfolding first_day days_of_years is_leap
year_days = (refl, refl)

pub year_within : (t : ℤ) → IsOfYears t → (pos 0 ≤ℤ year_of (day_of t))
    × (year_of (day_of t) ≤ℤ pos 9999)
year_within t within = (
  year_of-from (day_of t) (pos 0) (rw year_days.0 (omega (arith, floor_arith, within.0))),
  year_of-below (day_of t) (pos 9999) (rw year_days.1 (omega (arith, floor_arith, within.1))),
)

pub abs_same : (z : ℤ) → pos 0 ≤ℤ z → pos (unsigned_abs z) ≡ z
abs_same (pos n) le = refl
abs_same (negsuc n) le = absurd (grind (arith, ints))

pub abs_is : (n : ℕ) (z : ℤ) → pos n ≡ z → n ≡ unsigned_abs z
abs_is n z e = rw (sym e) refl

-- a year 400 years earlier is a small number
small_abs : (z : ℤ) → neg_ℤ (pos 400) ≤ℤ z → z ≤ℤ pos 9599 → unsigned_abs z < 2 ^ 31
small_abs (pos n) low high = let le : n ≤ 9599 = grind (arith, ints) in omega arith
small_abs (negsuc n) low high = let le : suc n ≤ 400 = grind (arith, ints) in omega arith

pub year_fits : (early : ℤ) (year : ℕ) → early ≡ pos year -ℤ pos 400 → year ≤ 9999
    → to_z w32 (of_z w32 early) ≡ early
year_fits early year e le =
    to_z-of_z w32 early
    (fits_signed_from_abs w32 early (small_abs early (omega (arith, ints)) (omega (arith, ints))))
