use Rattle.std.proofs.Common.{ℕ, ◌/◌, ◌%◌, ap, sym, ◌∙◌, arith}
use Rattle.std.proofs.lemmas.Int.{ints}
use Rattle.moment_core.specs.Calendar.{year_of}
use Rattle.moment_core.specs.TimeOfDay.{day_of}
use Rattle.moment_core.proofs.DateLaws.{part_bounds}
use Rattle.rrule_values.proofs.Untils.{abs_is, is_earlier, year_within}
use Rattle.rrule_values.proofs.until.DateTime.of.Goals as goal

pub year_past-requires : goal.year_past-requires
year_past-requires c =
    let early = is_earlier c.args.t.0 c.cycle_before.result.0 c.cycle_before.ensures.value in
    let years = year_within c.args.t.0 (c.rule_laws.ensures.until c.args.t c.requires) in (
      omega (arith, ints, c.fields-parts.ensures.year, early.year, years.0),
      omega
          (arith, ints, c.fields-parts.ensures.year, early.year, years.1),
    )

pub invariant_of-result : goal.invariant_of-result
invariant_of-result c =
    let early = is_earlier c.args.t.0 c.cycle_before.result.0 c.cycle_before.ensures.value in
    let years = year_within c.args.t.0 (c.rule_laws.ensures.until c.args.t c.requires) in
    let parts = c.fields-parts.ensures in
    let bounds = part_bounds (day_of c.cycle_before.result.0) in
    record {
      four_digits = omega (arith, ints, c.year_past.ensures, parts.year, early.year, years.1);
      date_digits = (omega (arith, parts.months.1), omega (arith, parts.day, bounds.3));
      time_digits = (
        omega (arith, parts.times.0.1),
        omega (arith, parts.times.1.1),
        omega
            (arith, parts.times.2.1),
      );
    }

pub returns-clause-year : goal.returns-clause-year
returns-clause-year c =
    let early = is_earlier c.args.t.0 c.cycle_before.result.0 c.cycle_before.ensures.value in
    abs_is c.year_past.result (year_of (day_of c.args.t.0))
    (omega (arith, ints, c.year_past.ensures, c.fields-parts.ensures.year, early.year))

pub returns-clause-month : goal.returns-clause-month
returns-clause-month c =
    let early = is_earlier c.args.t.0 c.cycle_before.result.0 c.cycle_before.ensures.value in
    c.fields-parts.ensures.month ∙ sym early.month

pub returns-clause-day : goal.returns-clause-day
returns-clause-day c =
    let early = is_earlier c.args.t.0 c.cycle_before.result.0 c.cycle_before.ensures.value in
    c.fields-parts.ensures.day ∙ sym early.day

pub returns-clause-hour : goal.returns-clause-hour
returns-clause-hour c =
    let early = is_earlier c.args.t.0 c.cycle_before.result.0 c.cycle_before.ensures.value in
    c.fields-parts.ensures.hour ∙ ap (λ (s : ℕ). s / 3600) (sym early.time)

pub returns-clause-minute : goal.returns-clause-minute
returns-clause-minute c =
    let early = is_earlier c.args.t.0 c.cycle_before.result.0 c.cycle_before.ensures.value in
    c.fields-parts.ensures.minute ∙ ap (λ (s : ℕ). s / 60 % 60) (sym early.time)

pub returns-clause-second : goal.returns-clause-second
returns-clause-second c =
    let early = is_earlier c.args.t.0 c.cycle_before.result.0 c.cycle_before.ensures.value in
    c.fields-parts.ensures.second ∙ ap (λ (s : ℕ). s % 60) (sym early.time)
