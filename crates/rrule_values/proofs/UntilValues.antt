-- UNTIL of a checked rule is written and read back.
use Rattle.std.proofs.Common.{◌≡◌, ◌≤◌, ℤ, pos, negsuc, ◌≤ℤ◌, Bool, true, ap, ◌∙◌, arith}
use Rattle.std.specs.Prelude.{unsigned_abs}
use Rattle.std.proofs.lemmas.Int.{ints}
use Rattle.moment_core.specs.Calendar.{year_of, month_of, day_of_month}
use Rattle.moment_core.specs.TimeOfDay.{IsCivil, day_of, hour_of, minute_of, second_of, seconds_of}
use Rattle.moment_core.specs.declared.line.Moment.{Moment}
use Rattle.moment_core.proofs.DateLaws.{part_bounds}
use Rattle.moment_core.proofs.TimeLaws.{IsCivil-fields, seconds_of-fields}
use Rattle.rule_core.specs.IcalChecks.{is_until}
use Rattle.rule_core.specs.Laws.{UntilsAreOfYears}
use Rattle.rrule_values.specs.Laws.{IsUntilBack}
use Rattle.rrule_values.specs.Until.{named, until_text}
use Rattle.rrule_values.proofs.Untils.{IsOfYears, abs_same, named-civil, year_within}
use Rattle.rrule_values.proofs.UntilText.{is_read}

abs_most : (z : ℤ) → pos 0 ≤ℤ z → z ≤ℤ pos 9999 → unsigned_abs z ≤ 9999
abs_most (pos n) le most = grind (arith, ints)
abs_most (negsuc n) le most = absurd (grind (arith, ints))

-- the fields of a moment name it
fields_name : (t : ℤ) → IsOfYears t
    → named (unsigned_abs (year_of (day_of t))) (month_of (day_of t)) (day_of_month (day_of t))
    (hour_of t) (minute_of t) (second_of t) ≡ t
fields_name t within =
    let years = year_within t within in
    let same = abs_same (year_of (day_of t)) years.0 in
    let civil : IsCivil (pos (unsigned_abs (year_of (day_of t)))) (month_of (day_of t))
    (day_of_month (day_of t)) (hour_of t) (minute_of t) (second_of t) =
    rw same (IsCivil-fields t) in
    named-civil (unsigned_abs (year_of (day_of t))) (month_of (day_of t)) (day_of_month (day_of t))
    (hour_of t) (minute_of t) (second_of t) civil
    ∙ ap (λ (y : ℤ). seconds_of y (month_of (day_of t)) (day_of_month (day_of t)) (hour_of t)
    (minute_of t) (second_of t)) same
    ∙ seconds_of-fields t

pub until_back : UntilsAreOfYears → (z : Bool) (m : Moment) → is_until m ≡ true → IsUntilBack z m
unfolding until_text
until_back of_years z m fine =
    let t = m.0 in
    let within = of_years m fine in
    let years = year_within t within in
    let civil = IsCivil-fields t in
    let most = part_bounds (day_of t) in
    let read = is_read (unsigned_abs (year_of (day_of t))) (month_of (day_of t))
    (day_of_month (day_of t)) (hour_of t) (minute_of t) (second_of t)
    (abs_most (year_of (day_of t)) years.0 years.1) (omega (arith, civil.0.1))
    (omega (arith, most.3)) (omega (arith, civil.2.1)) (omega (arith, civil.3.1))
    (omega (arith, civil.4.1)) z in
    record {
      formed = read.form;
      back = read.at ∙ fields_name t within;
      zone = read.zone;
      plain =
          read.plain;
    }
