use Rattle.std.proofs.Common.{arith, ◌≡◌, ℤ, Result, Ok, Err, Some, IfOk, FitsSigned, w8, w16, w32, to_z, of_z, true≢false, sym, refl, subst, ◌∙◌}
use Rattle.std.specs.Int.{Width}
use Rattle.std.specs.Result.{result_ok, OkIff}
use Rattle.jiff_core.proofs.SignedLemmas.{signed_casts}
use Rattle.civil_core.proofs.LibraryDates.{date-in, date_number-is, IsDate-from, epoch_day-is}
use Rattle.civil_core.proofs.dates.day_of_ymd.Goals as goal

-- a number that was converted to a signed type, and is read from its bits again
back-of_ok : {E : Type 0} (w : Width) (r : Result ℤ E) (v x : ℤ) → OkIff r (FitsSigned w v) v
    → Some x ≡ result_ok r → to_z w (of_z w x) ≡ v
back-of_ok w (Ok a) v x h e =
    let fits = h.0 in
    let same = h.1 in
    let is : x ≡ v = cc in
    rw is (omega (arith, signed_casts))
back-of_ok w (Err b) v x h e = absurd (cc)

-- what a clause says of the value of an `Ok`
holds-of_ok : {A E : Type 0} (r : Result A E) (P : A → Type 0) (x : A) → IfOk r P → Some x
    ≡ result_ok r → P x
holds-of_ok (Ok a) P x h e = let is : a ≡ x = cc in subst P is h
holds-of_ok (Err b) P x h e = absurd (cc)

pub returns-in_err-date-clause-some : goal.returns-in_err-date-clause-some
returns-in_err-date-clause-some c =
    let given : to_z w32 (of_z w32 c.args.year) ≡ c.args.year = omega (arith, signed_casts) in
    let year = back-of_ok w16 c.try_from.result _ _ c.try_from.ensures c.in_ok-year.ensures.value
    ∙ given in
    let month = back-of_ok w8 c.try_from-2.result _ _ c.try_from-2.ensures
    c.in_ok-month.ensures.value in
    let day = back-of_ok w8 c.try_from-3.result _ _ c.try_from-3.ensures
    c.in_ok-day.ensures.value in
    rw c.from_residual-in_err-date.ensures (
      λ e. absurd (true≢false (sym e)),
      λ h. c.in_err-date.ensures.variant ∙ c.new.ensures.succeeds.1
          (rw (year, month, day) (IsDate-from c.args.year c.args.month c.args.day h.0 h.1 h.2)),
    )

pub returns : goal.returns
returns c =
    let given : to_z w32 (of_z w32 c.args.year) ≡ c.args.year = omega (arith, signed_casts) in
    let year = back-of_ok w16 c.try_from.result _ _ c.try_from.ensures c.in_ok-year.ensures.value
    ∙ given in
    let month = back-of_ok w8 c.try_from-2.result _ _ c.try_from-2.ensures
    c.in_ok-month.ensures.value in
    let day = back-of_ok w8 c.try_from-3.result _ _ c.try_from-3.ensures
    c.in_ok-day.ensures.value in
    let d = c.in_ok-date.date in
    let is = rw (year, month, day) at (holds-of_ok c.new.result _ d c.new.ensures.value
    c.in_ok-date.ensures.value) in
    let month_is : d.month ≡ c.args.month = omega (arith, signed_casts, is.1) in
    let day_is : d.day ≡ c.args.day = omega (arith, signed_casts, is.2) in
    let place = date-in d c.args.year c.args.month c.args.day is.0 month_is day_is in
    let in_year = rw is.0 at d.year_in in
    let number = date_number-is d c.args.year c.args.month c.args.day is.0 month_is day_is in
    record {
      some = (λ _. (in_year, place.0, place.1), λ _. refl);
      value = omega (arith, signed_casts, number, epoch_day-is d, c.day_of_date.ensures);
      bound = (
        omega (arith, signed_casts, c.day_of_date.ensures),
        omega
            (arith, signed_casts, c.day_of_date.ensures),
      );
    }
