use Rattle.std.proofs.Common.{ℤ, sym, subst, ◌∙◌}
use Rattle.std.proofs.lemmas.Bool.{both_ways}
use Rattle.moment_core.specs.Line.{IsCalendarMoment}
use Rattle.moment_core.proofs.LineLaws.{calendar_works}
use Rattle.moment_text.proofs.Options.{not_both}
use Rattle.moment_text.proofs.Moments.{read_is, is_read, something_left, text_is, moment_same, stamp_same}
use Rattle.moment_text.proofs.reading.read_moment.Goals as goal

pub returns-in_err-literal-clause-found : goal.returns-in_err-literal-clause-found
returns-in_err-literal-clause-found c = λ s names.
    let laws = c.calendar_laws.ensures in
    absurd (is_read laws.times_name_moments laws.ranges_are_of_years c.args.text.now
    c.in_err-literal.ensures s.moment.0 s.absolute names)

pub returns-then-not-is_empty-clause-found : goal.returns-then-not-is_empty-clause-found
returns-then-not-is_empty-clause-found c = λ s names.
    let laws = c.calendar_laws.ensures in
    let read = read_is laws.times_name_moments laws.ranges_are_of_years c.args.text.now
    c.in_ok-literal.literal c.in_ok-literal.rest.now c.in_ok-literal.ensures s.moment.0 s.absolute
    names in
    absurd (something_left c.in_ok-literal.rest.now read.2 c.if-not-is_empty.ensures)

pub returns-in_err-moment-clause-found : goal.returns-in_err-moment-clause-found
returns-in_err-moment-clause-found c = λ s names.
    let laws = c.calendar_laws.ensures in
    let read = read_is laws.times_name_moments laws.ranges_are_of_years c.args.text.now
    c.in_ok-literal.literal c.in_ok-literal.rest.now c.in_ok-literal.ensures s.moment.0 s.absolute
    names in
    absurd (not_both _ _ c.in_err-moment.was
    (c.moment.ensures.found s.moment.0 (calendar_works s.moment.0 names.in_range) read.0))

pub returns-then-not-in_range-clause-found : goal.returns-then-not-in_range-clause-found
returns-then-not-in_range-clause-found c = λ s names.
    let laws = c.calendar_laws.ensures in
    let read = read_is laws.times_name_moments laws.ranges_are_of_years c.args.text.now
    c.in_ok-literal.literal c.in_ok-literal.rest.now c.in_ok-literal.ensures s.moment.0 s.absolute
    names in
    let same = moment_same c.in_ok-moment.moment s.moment.0 (sym c.in_ok-moment.was
    ∙ c.moment.ensures.found s.moment.0 (calendar_works s.moment.0 names.in_range) read.0) in
    let P : ℤ → Type 0 = λ z. IsCalendarMoment z in
    absurd (both_ways _ c.if-not-in_range.true
    (c.in_range.ensures.1 (subst P (sym same) names.in_range)))

pub returns-clause-named : goal.returns-clause-named
returns-clause-named c = record {
  is_literal = text_is c.args.text.now c.in_ok-literal.literal c.in_ok-literal.rest.now
      c.in_ok-literal.ensures c.if-not-is_empty.ensures c.in_ok-moment.moment.0
      c.in_ok-moment.ensures.named.0;
  in_range = c.in_range.ensures.0 c.if-not-in_range.false;
}

pub returns-clause-found : goal.returns-clause-found
returns-clause-found c = λ s names.
    let laws = c.calendar_laws.ensures in
    let read = read_is laws.times_name_moments laws.ranges_are_of_years c.args.text.now
    c.in_ok-literal.literal c.in_ok-literal.rest.now c.in_ok-literal.ensures s.moment.0 s.absolute
    names in
    let same = moment_same c.in_ok-moment.moment s.moment.0 (sym c.in_ok-moment.was
    ∙ c.moment.ensures.found s.moment.0 (calendar_works s.moment.0 names.in_range) read.0) in
    stamp_same c.in_ok-moment.moment c.in_ok-literal.literal.absolute s same read.1
