-- A rule of RFC 5545 without UNTIL and COUNT is met again after as many times 400 years as hold a
-- whole number of its intervals.
use Rattle.std.proofs.Common.{◌≡◌, ℕ, ◌*◌, ◌<◌, ◌≤ℤ◌, suc, zero, Bool, ◌&&◌, ◌||◌, Option, Some, None, ap, ◌∙◌, refl, arith, ℤ, pos, ◌+ℤ◌, ◌-ℤ◌, unsigned_abs, int_le}
use Rattle.std.proofs.lemmas.Int.{ints}
use Rattle.moment_core.proofs.CycleLaws.{divides-multiple, later-more, later-none, unit_of-cycles}
use Rattle.moment_core.proofs.DateLaws.{days_into_year-cycle, month_of-cycle, day_of_month-cycle, weekday_of-cycle}
use Rattle.moment_core.proofs.TimeLaws.{day_of-cycle}
use Rattle.moment_core.proofs.WeekLaws.{week_of-cycle}
use Rattle.moment_core.specs.Calendar.{divides}
use Rattle.moment_core.specs.Ranks.{counts_with, rank_in}
use Rattle.moment_core.specs.Sets.{ahead, seen}
use Rattle.moment_core.specs.TimeOfDay.{day_of}
use Rattle.moment_core.specs.Units.{unit_of, units_of}
use Rattle.moment_core.specs.declared.line.Dir.{Dir}
use Rattle.moment_core.specs.declared.line.Dir.TheVariants.{Fore, Back}
use Rattle.moment_core.specs.declared.line.Moment.{Moment}
use Rattle.moment_core.specs.declared.line.TheConstants.{G}
use Rattle.moment_core.specs.declared.units.Unit.{Unit as TimeUnit}
use Rattle.moment_core.proofs.Lists.{any_same}
use Rattle.moment_core.proofs.Comparing.{int_eq-same}
use Rattle.moment_core.proofs.LineLaws.{ahead-later}
use Rattle.moment_core.proofs.Counting.{count-same}
use Rattle.rule_core.specs.IcalChecks.{is_monthly}
use Rattle.rule_core.specs.Values.{is_given}
use Rattle.rule_core.specs.IcalMembers.{filled, has_uncounted, ical_unit, is_by, is_day_item, meets_by_date, meets_by_day, meets_by_time, meets_parts, meets_set_pos}
use Rattle.rule_core.specs.declared.ical.IcalRule.{IcalRule}
use Rattle.rule_core.specs.declared.lists.DayItem.{DayItem}
use Rattle.rule_core.proofs.Repeating.{leap-cycle, weeks-cycle}

-- the weekdays
day_item-cycle : (in_month : Bool) (day : ℤ) (item : DayItem) → is_day_item in_month
    (day +ℤ pos 146_097) item ≡ is_day_item in_month day item
unfolding is_day_item
day_item-cycle in_month day item =
    rw (
      weekday_of-cycle day,
      month_of-cycle day,
      leap-cycle day,
      day_of_month-cycle day,
      days_into_year-cycle day,
    ) refl

by_day-cycle : (r : IcalRule) (day : ℤ) → meets_by_day r (day +ℤ pos 146_097) ≡ meets_by_day r day
unfolding meets_by_day
by_day-cycle r day =
    let in_month = is_monthly r.freq || is_given r.by_month in
    rw (any_same (is_day_item in_month (day +ℤ pos 146_097)) (is_day_item in_month day)
    (day_item-cycle in_month day) r.by_day) refl

-- the BY parts
by_date-cycle : (r : IcalRule) (day : ℤ) → meets_by_date r (day +ℤ pos 146_097)
    ≡ meets_by_date r day
unfolding meets_by_date
by_date-cycle r day =
    let week = week_of-cycle r.week_start day in
    rw (
      by_day-cycle r day,
      month_of-cycle day,
      weeks-cycle r.week_start day,
      week,
      leap-cycle day,
      days_into_year-cycle day,
      day_of_month-cycle day,
    ) refl

by_time-cycle : (r : IcalRule) (t : ℤ) → meets_by_time r (t +ℤ pos G) ≡ meets_by_time r t
unfolding meets_by_time
by_time-cycle r t = rw ((day_of-cycle t).1) refl

parts-cycle : (r : IcalRule) (t : ℤ) → meets_parts r (t +ℤ pos G) ≡ meets_parts r t
unfolding meets_parts
parts-cycle r t =
    let place = day_of-cycle t in
    rw (by_time-cycle (filled r) t, place.0, by_date-cycle (filled r) (day_of t)) refl

parts-cycles : (r : IcalRule) (t : ℤ) (m : ℕ) → meets_parts r (t +ℤ pos (m * G)) ≡ meets_parts r t
parts-cycles r t zero = ap (meets_parts r) (later-none t G)
parts-cycles r t (suc m) = ap (meets_parts r) (later-more t m G) ∙ parts-cycle r (t +ℤ pos (m * G))
    ∙ parts-cycles r t m

-- the ranks

module _ (unit : TimeUnit) (test : ℤ → Bool) (m : ℕ) (same : (u : ℤ) → test (u +ℤ pos (m * G))
    ≡ test u) where
  counts-cycles : (t u : ℤ) → counts_with unit test (t +ℤ pos (m * G)) (u +ℤ pos (m * G))
      ≡ counts_with unit test t u
  counts-cycles t u =
      rw (
        unit_of-cycles unit t m,
        unit_of-cycles unit u m,
        int_eq-same (unit_of unit u)
            (unit_of unit t) (m * units_of unit),
        same u,
      ) refl

  rank-cycles : (dir : Dir) (t : ℤ) → rank_in unit test dir (t +ℤ pos (m * G))
      ≡ rank_in unit test dir t
  unfolding rank_in
  rank-cycles dir t =
      count-same (seen (counts_with unit test (t +ℤ pos (m * G))) dir (t +ℤ pos (m * G)))
      (seen (counts_with unit test t) dir t) _
      (λ k below. ap (counts_with unit test (t +ℤ pos (m * G))) (ahead-later dir t (m * G) k)
      ∙ counts-cycles t (ahead dir t k))

set_pos-cycles : (r : IcalRule) (t : ℤ) (m : ℕ) → meets_set_pos r (t +ℤ pos (m * G))
    ≡ meets_set_pos r t
unfolding meets_set_pos
set_pos-cycles r t m =
    let same = λ (u : ℤ). parts-cycles r u m in
    rw (
      rank-cycles (ical_unit r) (meets_parts r) m same Back t,
      rank-cycles (ical_unit r)
          (meets_parts r) m same Fore t,
    ) refl

-- the whole rule, from DTSTART on
from-start : (start t : ℤ) (n : ℕ) → start ≤ℤ t → int_le start (t +ℤ pos n) ≡ int_le start t
from-start start t n later = grind (arith, ints)

endless_same : (until : Option Moment) (t u : ℤ) → until ≡ None → is_by until t ≡ is_by until u
endless_same None t u e = refl
endless_same (Some last) t u e = absurd cc

five_same : (a a' b b' c c' d d' e e' : Bool) → a ≡ a' → b ≡ b' → c ≡ c' → d ≡ d' → e ≡ e'
    → (a && b && c && d && e) ≡ (a' && b' && c' && d' && e')
five_same a a' b b' c c' d d' e e' p q r s t = cc

pub has_uncounted-cycles : (r : IcalRule) (t : ℤ) (m j : ℕ) → r.until ≡ None → r.start.moment.0 ≤ℤ t
    → 0 < unsigned_abs r.interval → m * units_of (ical_unit r) ≡ j * unsigned_abs r.interval
    → has_uncounted r (t +ℤ pos (m * G)) ≡ has_uncounted r t
unfolding has_uncounted
has_uncounted-cycles r t m j endless later some e =
    let n = unsigned_abs r.interval in
    let here = unit_of (ical_unit r) t in
    let start = unit_of (ical_unit r) r.start.moment.0 in
    let number : unit_of (ical_unit r) (t +ℤ pos (m * G)) -ℤ start ≡ (here -ℤ start) +ℤ pos
    (j * n) = rw (unit_of-cycles (ical_unit r) t m, e) (omega (arith, ints)) in
    five_same _ _ _ _ _ _ _ _ _ _ (from-start r.start.moment.0 t (m * G) later)
    (ap (divides n) number ∙ divides-multiple n (here -ℤ start) j some) (parts-cycles r t m)
    (set_pos-cycles r t m)
    (endless_same r.until (t +ℤ pos (m * G)) t endless)
