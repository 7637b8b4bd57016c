use Rattle.std.proofs.Common.{arith, ◌≡◌, ◌+◌}
use Rattle.jiff_core.proofs.SignedLemmas.{signed_casts}
use Rattle.jiff.specs.Words.{epoch_day, monday_zero}
use Rattle.moment_core.specs.Calendar.{weekday_of}
use Rattle.civil_core.proofs.LibraryDates.{parts-is}
use Rattle.civil_core.proofs.LibraryWeeks.{week_start-back}
use Rattle.civil_core.proofs.weeks.fourth_day.Goals as goal

pub returns-clause-value : goal.returns-clause-value
returns-clause-value c =
    let date : epoch_day c.date_of_day.result ≡ c.args.day =
    omega (arith, signed_casts, c.date_of_day.ensures) in
    let p = parts-is c.date_of_day.result c.args.day date in
    let weekday : weekday_of c.args.day ≡ monday_zero c.weekday-weekday.result + 1 =
    omega (arith, p.6, c.weekday-weekday.ensures) in
    let back = week_start-back (monday_zero c.library_weekday.result)
    (monday_zero c.weekday-weekday.result) c.args.day weekday in
    let from_first = rw c.library_weekday.ensures.value at back in
    omega (arith, signed_casts, from_first, c.since.ensures, c.date_of_day-2.ensures)
