use Rattle.std.proofs.Common.{arith, ◌≡◌}
use Rattle.jiff_core.proofs.SignedLemmas.{signed_casts}
use Rattle.jiff.specs.Words.{epoch_day}
use Rattle.moment_core.proofs.DateLaws.{part_bounds, month_of-is, days_into_year-is}
use Rattle.civil_core.proofs.LibraryDates.{parts-is}
use Rattle.civil_core.proofs.WorkingDays.{years-of_working_day}
use Rattle.civil_core.proofs.dates.date_parts.Goals as goal

pub returns : goal.returns
returns c =
    let date : epoch_day c.date_of_day-date.result ≡ c.args.day =
    omega (arith, signed_casts, c.date_of_day-date.ensures) in
    let p = parts-is c.date_of_day-date.result c.args.day date in
    let bounds = part_bounds c.args.day in
    let months = month_of-is c.args.day in
    let days = (days_into_year-is c.args.day).1 in
    let years = years-of_working_day c.args.day c.requires in
    record {
      year = omega (arith, signed_casts);
      month = omega (arith, signed_casts);
      day = omega (arith, signed_casts);
      yearday = omega (arith, signed_casts);
      month_len = omega (arith, signed_casts);
      year_len = omega (arith, signed_casts);
      years = (omega (arith, signed_casts), omega (arith, signed_casts));
      months = (omega (arith, signed_casts), omega (arith, signed_casts));
      days = (omega (arith, signed_casts), omega (arith, signed_casts));
      yeardays = (omega (arith, signed_casts), omega (arith, signed_casts));
    }
