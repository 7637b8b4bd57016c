use Rattle.std.proofs.Common.{arith, ◌≡◌, w32, w64, to_z, of_z, ap, ◌∙◌}
use Rattle.jiff_core.proofs.SignedLemmas.{signed_casts}
use Rattle.moment_core.specs.Calendar.{day_number, weekday_of}
use Rattle.civil_core.proofs.NthDays.{first-of_month}
use Rattle.civil_core.proofs.nth_days.first_of_weekday.Goals as goal

pub returns-clause-value : goal.returns-clause-value
returns-clause-value c =
    let year : to_z w32 (of_z w32 c.args.year) ≡ c.args.year = omega (arith, signed_casts) in
    let bound = c.in_ok-day_number.ensures.bound in
    let given : to_z w64 (of_z w64 c.in_ok-day_number.day_number) ≡ c.in_ok-day_number.day_number =
    omega (arith, signed_casts, bound) in
    let first : c.in_ok-day_number.day_number ≡ day_number c.args.year c.args.month 1 =
    rw year at c.in_ok-day_number.ensures.value in
    let weekday = c.number-2.ensures.value ∙ c.weekday_of_day-weekday.ensures
    ∙ ap weekday_of (given ∙ first) in
    first-of_month c.args.year c.args.month c.number.result c.number-2.result
    c.number.ensures.within weekday ∙ c.number.ensures.value
