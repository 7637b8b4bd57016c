use Rattle.std.proofs.Common.{refl, arith}
use Rattle.moment_core.proofs.FloorLemmas.{floor_arith}
use Rattle.moment_core.proofs.DateLaws.{month_of-is}
use Rattle.moment_core.specs.Calendar.{year_of}
use Rattle.moment_core.specs.TimeOfDay.{day_of}
use Rattle.civil_core.proofs.MonthLemmas.{leap-of-len, month-of-day}
use Rattle.civil_core.proofs.months.month_at.Goals as goal

pub overflow_sub-result-3 : goal.overflow_sub-result-3
overflow_sub-result-3 c =
    let e = c.fields-parts.ensures in
    omega (arith, month_of-is (day_of c.args.t.0), e.day, e.yearday)

pub returns-clause-month : goal.returns-clause-month
returns-clause-month c =
    let e = c.fields-parts.ensures in
    let d = day_of c.args.t.0 in
    month-of-day _ d (omega (arith, floor_arith, e.year, e.years)) e.month
    (leap-of-len (year_of d) _ e.year_len)
    (omega (arith, floor_arith, e.day, e.days, e.month_lens, c.div_euclid.ensures, c.requires))
    (rw (c.number.ensures.value, e.weekday, e.day) refl) e.month_len
    (omega (arith, month_of-is d, e.day, e.yearday))

pub returns-clause-near : goal.returns-clause-near
returns-clause-near c =
    let e = c.fields-parts.ensures in
    record {
      low = omega (arith, floor_arith, e.days, e.month_lens, c.div_euclid.ensures, c.requires);
      high = omega (arith, floor_arith, e.days, e.month_lens, c.div_euclid.ensures, c.requires);
      years_low = omega (arith, floor_arith, e.years);
      years_high = omega (arith, floor_arith, e.years);
    }
