use Rattle.std.proofs.Common.{arith, ◌≡◌, ◌+◌, ◌*◌, ℕ, ℤ, w8, w32, to_z, of_z, true, true≢false, refl, sym, subst, Option, Some, None, IfSome}
use Rattle.jiff_core.proofs.SignedLemmas.{signed_casts}
use Rattle.moment_core.specs.Line.{IsWorkingMoment}
use Rattle.moment_core.specs.TimeOfDay.{seconds_of}
use Rattle.moment_core.specs.declared.line.Moment.{Moment}
use Rattle.civil_core.specs.Nths.{IsNthDay, IsNthMidnight}
use Rattle.civil_core.proofs.NthDays.{AreOfWeekday, IsNthDay-at_place, IsYear-of_midnight, at_place, day-at_place, size-of_IsNthDay}
use Rattle.civil_core.proofs.nth_days.nth_weekday.Goals as goal
use Rattle.civil_core.proofs.nth_days.nth_weekday.Goals.{After-moment}

pub returns-in_err-first-clause-some : goal.returns-in_err-first-clause-some
returns-in_err-first-clause-some c =
    let year : to_z w32 (of_z w32 c.args.year) ≡ c.args.year = omega (arith, signed_casts) in
    let none = rw year at c.in_err-first.ensures.some in
    let P : ℤ → Type 0 = λ z. IsWorkingMoment z in
    rw c.from_residual.ensures (
      λ e. absurd (true≢false (sym e)),
      λ h. none.1 (
        IsYear-of_midnight c.args.year c.args.month c.args.nth c.args.day h.1.0 h.1.1
            (subst P h.1.2 h.2),
        h.1.1.in_year,
      ),
    )

pub returns-in_err-place-clause-some : goal.returns-in_err-place-clause-some
returns-in_err-place-clause-some c =
    let year : to_z w32 (of_z w32 c.args.year) ≡ c.args.year = omega (arith, signed_casts) in
    let nth : to_z w8 (of_z w8 c.args.nth) ≡ c.args.nth = omega (arith, signed_casts) in
    let found = (rw year at c.in_ok-first.ensures.some).0 refl in
    let on_weekday = rw year at c.in_ok-first.ensures.value in
    let last = rw year at c.count_from-count.ensures.last in
    let past = rw year at c.count_from-count.ensures.past in
    let none = rw nth at c.in_err-place.ensures.some in
    let are : AreOfWeekday c.args.year c.args.month c.args.day c.in_ok-first.first
    c.count_from-count.result = record {
      in_year = found.1;
      first_week =
          c.in_ok-first.ensures.within;
      on_weekday = on_weekday;
      last = last;
      past = past;
    } in
    rw c.from_residual-in_err-place.ensures (
      λ e. absurd (true≢false (sym e)),
      λ h. none.1 (size-of_IsNthDay c.args.year c.args.month c.args.nth c.args.day
          c.in_ok-first.first c.count_from-count.result h.1.0 are h.1.1),
    )

are : (c : After-moment) → AreOfWeekday c.args.year c.args.month c.args.day c.in_ok-first.first
    c.count_from-count.result
are c =
    let year : to_z w32 (of_z w32 c.args.year) ≡ c.args.year = omega (arith, signed_casts) in
    let found = (rw year at c.in_ok-first.ensures.some).0 refl in
    record {
      in_year = found.1;
      first_week = c.in_ok-first.ensures.within;
      on_weekday =
          rw year at c.in_ok-first.ensures.value;
      last = rw year at c.count_from-count.ensures.last;
      past = rw year at c.count_from-count.ensures.past;
    }

at_n : (c : After-moment) → at_place c.args.nth c.count_from-count.result c.in_ok-place.place ≡ true
at_n c =
    let nth : to_z w8 (of_z w8 c.args.nth) ≡ c.args.nth = omega (arith, signed_casts) in
    rw nth at c.in_ok-place.ensures.value

is_day : (c : After-moment) → IsNthDay c.args.year c.args.month c.args.nth c.args.day
    (c.in_ok-first.first + 7 * c.in_ok-place.place)
is_day c = IsNthDay-at_place c.args.year c.args.month c.args.nth c.args.day c.in_ok-first.first
    c.count_from-count.result c.in_ok-place.place (are c) c.in_ok-place.ensures.within (at_n c)

pub returns-clause-some : goal.returns-clause-some
returns-clause-some c =
    let year : to_z w32 (of_z w32 c.args.year) ≡ c.args.year = omega (arith, signed_casts) in
    let some = rw year at c.moment.ensures.some in
    let day = c.in_ok-first.first + 7 * c.in_ok-place.place in
    let t = seconds_of c.args.year c.args.month day 0 0 0 in
    let P : ℤ → Type 0 = λ z. IsWorkingMoment z in
    let Q : ℕ → Type 0 = λ d. IsWorkingMoment (seconds_of c.args.year c.args.month d 0 0 0) in
    let is = is_day c in (
      λ e. (t, (day, is, refl), (some.0 e).1),
      λ h.
          let same = day-at_place c.args.year c.args.month c.args.nth c.args.day c.in_ok-first.first
          c.count_from-count.result c.in_ok-place.place h.1.0 (are c) c.in_ok-place.ensures.within
          (at_n c) h.1.1 in
          some.1 (
            (
              is.in_year,
              is.in_month,
              (omega arith, omega arith),
              (omega arith, omega arith),
              (omega arith, omega arith),
            ),
            subst Q same (subst P h.1.2 h.2),
          ),
    )

-- what is said of the moment that was found
is_midnight : (o : Option Moment) (year : ℤ) (month : ℕ) (n : ℤ) (weekday day : ℕ)
    → IsNthDay year month n weekday day → IfSome o (λ t. t.0 ≡ seconds_of year month day 0 0 0)
    → IfSome o (λ t. IsNthMidnight year month n weekday t.0)
is_midnight (Some t) year month n weekday day is e = (day, is, e)
is_midnight None year month n weekday day is e = tt

pub returns-clause-value : goal.returns-clause-value
returns-clause-value c =
    let year : to_z w32 (of_z w32 c.args.year) ≡ c.args.year = omega (arith, signed_casts) in
    is_midnight c.moment.result c.args.year c.args.month c.args.nth c.args.day
    (c.in_ok-first.first + 7 * c.in_ok-place.place) (is_day c) (rw year at c.moment.ensures.value)
