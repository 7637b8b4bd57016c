use Rattle.std.proofs.Common.{arith, ◌≡◌}
use Rattle.jiff_core.proofs.SignedLemmas.{signed_casts}
use Rattle.jiff.specs.Words.{epoch_day}
use Rattle.civil_core.proofs.LibraryDates.{parts-is}
use Rattle.civil_core.proofs.dates.weekday_of_day.Goals as goal

pub returns : goal.returns
returns c =
    let date : epoch_day c.date_of_day.result ≡ c.args.day =
    omega (arith, signed_casts, c.date_of_day.ensures) in
    let weekday = (parts-is c.date_of_day.result c.args.day date).6 in
    let value = rw c.unwrap.ensures at c.new.ensures.value in
    omega (
      arith,
      signed_casts,
      value,
      weekday,
      c.weekday.ensures,
      c.to_monday_one_offset-number.ensures,
    )
