use Rattle.std.proofs.Common.{arith, ◌≡◌, w16, w32, w64, to_z, of_z, unsigned_abs}
use Rattle.jiff_core.proofs.SignedLemmas.{signed_casts}
use Rattle.moment_core.specs.TimeOfDay.{day_of, second_of_day}
use Rattle.moment_core.proofs.TimeLaws.{seconds_of-fields}
use Rattle.civil_core.proofs.parts.fields.Goals as goal

pub returns-clause-named : goal.returns-clause-named
returns-clause-named c =
    let year : to_z w32 (of_z w32 (to_z w16 (of_z w16 c.date_parts-date.result.year)))
    ≡ c.date_parts-date.result.year = omega (arith, signed_casts) in
    let day : to_z w64 (of_z w64 c.div_euclid-day.result) ≡ day_of c.args.t.0 =
    omega (arith, signed_casts, c.div_euclid-day.ensures) in
    let time : unsigned_abs (to_z w64 (of_z w64 c.rem_euclid-second_of_day.result))
    ≡ second_of_day c.args.t.0 = omega (arith, signed_casts, c.rem_euclid-second_of_day.ensures) in
    let date = rw day at c.date_parts-date.ensures in
    rw (year, time, date.year, date.month, date.day) (seconds_of-fields c.args.t.0)
