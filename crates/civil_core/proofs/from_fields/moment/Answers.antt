use Rattle.std.proofs.Common.{arith, ◌≡◌, w32, to_z, of_z, true≢false, sym, refl}
use Rattle.jiff_core.proofs.SignedLemmas.{signed_casts}
use Rattle.civil_core.proofs.WorkingDays.{IsYear-of_civil}
use Rattle.civil_core.proofs.from_fields.moment.Goals as goal

pub returns-in_err-day_number-clause-some : goal.returns-in_err-day_number-clause-some
returns-in_err-day_number-clause-some c =
    let year : to_z w32 (of_z w32 c.args.year) ≡ c.args.year = omega (arith, signed_casts) in
    let none = rw year at c.in_err-day_number.ensures.some in
    rw c.from_residual.ensures (
      λ e. absurd (true≢false (sym e)),
      λ h. none.1 (
        IsYear-of_civil c.args.year c.args.month c.args.day c.args.hour c.args.minute
            c.args.second h.0 h.1,
        h.0.0,
        h.0.1,
      ),
    )

pub returns-then-in_work-clause-some : goal.returns-then-in_work-clause-some
returns-then-in_work-clause-some c =
    let year : to_z w32 (of_z w32 c.args.year) ≡ c.args.year = omega (arith, signed_casts) in
    let date = (rw year at c.in_ok-day_number.ensures.some).0 refl in
    let time = c.in_ok-time.ensures.some.0 refl in
    let day_number = rw year at c.in_ok-day_number.ensures.value in
    let bound = c.in_ok-day_number.ensures.bound in
    let seconds = c.in_ok-time.ensures.value in
    let working = c.if-in_work.ensures.0 refl in (
      λ _. (
        (date.1, date.2, time.0, time.1, time.2),
        (omega (arith, signed_casts), omega (arith, signed_casts)),
      ),
      λ _. refl,
    )

pub returns-then-in_work-clause-value : goal.returns-then-in_work-clause-value
returns-then-in_work-clause-value c =
    let year : to_z w32 (of_z w32 c.args.year) ≡ c.args.year = omega (arith, signed_casts) in
    let time = c.in_ok-time.ensures.some.0 refl in
    let day_number = rw year at c.in_ok-day_number.ensures.value in
    omega (arith, signed_casts, c.in_ok-day_number.ensures.bound, c.in_ok-time.ensures.value)

pub returns-else-in_work-clause-some : goal.returns-else-in_work-clause-some
returns-else-in_work-clause-some c =
    let year : to_z w32 (of_z w32 c.args.year) ≡ c.args.year = omega (arith, signed_casts) in
    let time = c.in_ok-time.ensures.some.0 refl in
    let day_number = rw year at c.in_ok-day_number.ensures.value in
    let bound = c.in_ok-day_number.ensures.bound in
    let seconds = c.in_ok-time.ensures.value in (
      λ e. absurd (true≢false (sym e)),
      λ h. c.if-in_work.ensures.1 (
        omega (arith, signed_casts, h.1),
        omega
            (arith, signed_casts, h.1),
      ),
    )
