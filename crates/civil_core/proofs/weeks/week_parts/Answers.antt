use Rattle.std.proofs.Common.{arith, ◌≡◌, w64, to_z, of_z}
use Rattle.jiff_core.proofs.SignedLemmas.{signed_casts}
use Rattle.moment_core.specs.Calendar.{week_year_of}
use Rattle.moment_core.proofs.WeekLaws.{week_of-bounds, weeks_in_year-is}
use Rattle.civil_core.proofs.LibraryWeeks.{fourth-is, ordinal-within}
use Rattle.civil_core.proofs.WorkingDays.{week_years-of_working_day}
use Rattle.civil_core.proofs.weeks.week_parts.Goals as goal

pub overflow_sub-after-2 : goal.overflow_sub-after-2
overflow_sub-after-2 c = omega (
  arith,
  signed_casts,
  c.day_of_year.ensures,
  c.days_in_year.ensures,
  ordinal-within c.fourth_day-fourth.result,
)

pub overflow_cast-result : goal.overflow_cast-result
overflow_cast-result c = omega (
  arith,
  signed_casts,
  c.day_of_year.ensures,
  ordinal-within
      c.fourth_day-fourth.result,
)

pub overflow_cast-result-2 : goal.overflow_cast-result-2
overflow_cast-result-2 c =
    omega (
      arith,
      signed_casts,
      c.day_of_year.ensures,
      c.days_in_year.ensures,
      ordinal-within
          c.fourth_day-fourth.result,
    )

pub returns : goal.returns
returns c =
    let day : to_z w64 (of_z w64 c.args.day) ≡ c.args.day = omega (arith, signed_casts) in
    let fourth = rw day at c.fourth_day-fourth.ensures.value in
    let within = c.fourth_day-fourth.ensures.within in
    let p = fourth-is c.fourth_day-fourth.result c.args.first c.args.day within fourth in
    let place = ordinal-within c.fourth_day-fourth.result in
    let years = week_years-of_working_day c.args.first c.args.day within c.requires in
    let numbers = week_of-bounds c.args.first c.args.day within in
    let counts = (weeks_in_year-is c.args.first (week_year_of c.args.first c.args.day) within).1 in
    record {
      week = omega (arith, signed_casts, c.day_of_year.ensures);
      week_year = omega (arith, signed_casts, c.year.ensures);
      weeks = omega (arith, signed_casts, c.day_of_year.ensures, c.days_in_year.ensures);
      week_years = (
        omega (arith, signed_casts, c.year.ensures),
        omega
            (arith, signed_casts, c.year.ensures),
      );
      numbers = (
        omega (arith, signed_casts),
        omega (
          arith,
          signed_casts,
          c.day_of_year.ensures,
          c.days_in_year.ensures,
        ),
      );
      counts = (
        omega (arith, signed_casts, c.day_of_year.ensures, c.days_in_year.ensures),
        omega
            (arith, signed_casts, c.day_of_year.ensures, c.days_in_year.ensures),
      );
    }
