-- A rule of RFC 5545 without a fault repeats by its frame.
use Rattle.std.proofs.Common.{◌≡◌, ℕ, ◌*◌, ◌≤◌, ℤ, pos, ◌+ℤ◌, ◌-ℤ◌, ◌≤ℤ◌, ◌<ℤ◌, Bool, true, false, ◌&&◌, Option, Some, None, nat_le, refl, sym, ap, subst, ◌∙◌, arith, unsigned_abs}
use Rattle.std.specs.Prelude.{int_le, IfSome}
use Rattle.std.proofs.lemmas.Bool.{and_left, and_right, leb-true}
use Rattle.std.proofs.lemmas.Int.{ints}
use Rattle.frame_core.specs.Frames.{Repeats}
use Rattle.frame_core.specs.Laws.{RulesComeRound}
use Rattle.frame_core.specs.Periods.{period_of_rule}
use Rattle.frame_core.specs.declared.frames.Frame.{Frame}
use Rattle.moment_core.specs.Line.{IsCalendarMoment, position_of}
use Rattle.moment_core.specs.Ranks.{count_to}
use Rattle.moment_core.specs.Sets.{moments_in}
use Rattle.moment_core.specs.Units.{units_of}
use Rattle.moment_core.specs.declared.line.Moment.{Moment}
use Rattle.moment_core.specs.declared.line.TheConstants.{WIDTH}
use Rattle.moment_core.proofs.LineLaws.{earlier-back, moments_in-later}
use Rattle.rule_core.specs.IcalMembers.{has_ical, has_uncounted, ical_unit, is_by, is_within_count}
use Rattle.rule_core.specs.Laws.{IcalIntervalFits, IcalRulesRepeat, IcalValuesFit, UntilsAreOfYears}
use Rattle.rule_core.specs.declared.ical.IcalRule.{IcalRule}
use Rattle.stored_pair.specs.Recurrences.{AreModest}
use Rattle.ical_rules.specs.Laws.{CheckedIcalRulesRepeat}
use Rattle.ical_rules.specs.Leaves.{IsFramed}
use Rattle.ical_rules.specs.Rules.{frame_of_ical, framed_as, framed_by, framed_last, framed_to, last_by, last_counted, start_of}
use Rattle.ical_rules.specs.Starts.{IsLastMoment}
use Rattle.ical_rules.proofs.Checks.{interval_is, until_is}
use Rattle.ical_rules.proofs.LastCounted.{last_counted_is, none_past}
use Rattle.std.proofs.Math.Bool.{and-true}

-- a set of moments repeats by a frame, where its test does from the frame's ends on
repeats-by : (has : ℤ → Bool) (frame : Frame) → ((t : ℤ) → frame.hi.0 ≤ℤ position_of t
    → has (t +ℤ pos frame.period) ≡ has t)
    → ((t : ℤ) → position_of (t +ℤ pos frame.period) ≤ℤ frame.lo.0 → has (t +ℤ pos frame.period)
    ≡ has t) → Repeats (moments_in has) frame
repeats-by has frame up down = record {
  upwards = λ p above. moments_in-later has p frame.period (λ t at. up t (rw at above));
  downwards = λ p below.
      let back = p -ℤ pos (2 * frame.period) in
      sym (moments_in-later has back frame.period (λ t at. down t (omega (arith, ints, at, below))))
      ∙ ap (moments_in has) (earlier-back p (2 * frame.period));
}

-- no member lies before DTSTART, nor past UNTIL
uncounted-before : (r : IcalRule) (t : ℤ) → t <ℤ start_of r → has_uncounted r t ≡ false
unfolding has_uncounted
uncounted-before r t before =
    let first : int_le (start_of r) t ≡ false = grind (arith, ints) in
    and_left _ _ (and_left _ _ (and_left _ _ (and_left _ _ first)))

is_by-past : (until : Option Moment) (m : Moment) (t : ℤ) → until ≡ Some m → m.0 <ℤ t
    → is_by until t ≡ false
is_by-past None m t e past = absurd cc
is_by-past (Some u) m t e past =
    let same : u ≡ m = cc in
    let last : u.0 ≡ m.0 = ap (λ (x : Moment). x.0) same in
    grind (arith, ints)

uncounted-past : (r : IcalRule) (m : Moment) (t : ℤ) → r.until ≡ Some m → m.0 <ℤ t
    → has_uncounted r t ≡ false
unfolding has_uncounted
uncounted-past r m t is past = and_right _ _ (is_by-past r.until m t is past)

none-counted : (r : IcalRule) (t : ℤ) → has_uncounted r t ≡ false → has_ical r t ≡ false
unfolding has_ical
none-counted r t e = and_left _ _ e

ical-before : (r : IcalRule) (t : ℤ) → t <ℤ start_of r → has_ical r t ≡ false
ical-before r t before = none-counted r t (uncounted-before r t before)

-- the frame of a rule that ends
modest-to : (r : IcalRule) (last : ℤ) → IsCalendarMoment (start_of r) → IsLastMoment last
    → IfSome (framed_to r last) AreModest
modest-to r last here until = record {
  lo_low = omega (arith, ints);
  lo_high = omega (arith, ints);
  hi_low = omega (arith, ints);
  hi_high = omega (arith, ints);
}

framed-to : (r : IcalRule) (last : ℤ) → IsCalendarMoment (start_of r) → IsLastMoment last
    → ((t : ℤ) → last <ℤ t → has_ical r t ≡ false) → IsFramed (has_ical r) (framed_to r last)
framed-to r last here until none = record {
  period = (omega arith, omega arith);
  ends = modest-to r last here until;
  repeats = repeats-by (has_ical r) _
      (λ t above. none (t +ℤ pos 1) (omega (arith, ints, above))
      ∙ sym (none t (omega (arith, ints, above))))
      (λ t below. ical-before r (t +ℤ pos 1) (omega (arith, ints, below))
      ∙ sym (ical-before r t (omega (arith, ints, below))));
}

-- and of one that goes on for ever
ical-endless : (r : IcalRule) (t : ℤ) → r.count ≡ None → has_ical r t ≡ has_uncounted r t
unfolding has_ical
ical-endless r t e =
    ap (λ c. has_uncounted r t && is_within_count c (count_to (has_uncounted r) (start_of r) t)) e
    ∙ and-true (has_uncounted r t)

framed-endless : (r : IcalRule) (period : ℕ) → IsCalendarMoment (start_of r) → 1 ≤ period
    → ((t : ℤ) → start_of r ≤ℤ t → has_ical r (t +ℤ pos period) ≡ has_ical r t)
    → (b : Bool) → nat_le period WIDTH ≡ b → IsFramed (has_ical r)
    (framed_by r (position_of (start_of r)) period)
framed-endless r period here some same false e =
    rw e (record { period = tt; ends = tt; repeats = tt })
framed-endless r period here some same true e =
    rw e (record {
      period = (some, leb-true period WIDTH e);
      ends = record {
        lo_low = omega (arith, ints);
        lo_high = omega (arith, ints);
        hi_low =
            omega (arith, ints);
        hi_high = omega (arith, ints);
      };
      repeats = repeats-by (has_ical r) _
          (λ t above. same t (omega (arith, ints, above)))
          (λ t below. ical-before r (t +ℤ pos period) (omega (arith, ints, below))
          ∙ sym (ical-before r t (omega (arith, ints, below))));
    })

module _ (round : RulesComeRound) (repeats : IcalRulesRepeat) (r : IcalRule)
    (here : IsCalendarMoment (start_of r))
    (some : 1 ≤ unsigned_abs r.interval) (until : (m : Moment) → r.until ≡ Some m
    → IsLastMoment m.0) where
  framed-last : (count : ℤ) (last : Option ℤ) → r.count ≡ Some count → last_by r (Some count) ≡ last
      → IsFramed (has_ical r) (framed_last r last)
  framed-last count None is e = record { period = tt; ends = tt; repeats = tt }
  framed-last count (Some last) is e =
      let counted = last_counted_is r count last here e in
      framed-to r last here (
        omega (arith, ints, counted.later, here.0),
        omega
            (arith, ints, counted.working),
      ) (λ t past. none_past r count last t is counted past)

  framed-by : (u : Option Moment) (c : Option ℤ) → r.until ≡ u → r.count ≡ c → IsFramed (has_ical r)
      (framed_as r u c)
  unfolding last_counted
  framed-by (Some m) c is_until is_count = framed-to r m.0 here (until m is_until)
      (λ t past. none-counted r t (uncounted-past r m t is_until past))
  framed-by None (Some count) is_until is_count =
      let P : Option ℤ → Type 0 = λ c. IsFramed (has_ical r) (framed_last r (last_by r c)) in
      subst P (sym is_count) (framed-last count (last_by r (Some count)) is_count refl)
  framed-by None None is_until is_count =
      let n = units_of (ical_unit r) in
      let k = unsigned_abs r.interval in
      let (positive, (m, j, period, whole)) = round n k some in
      let later = λ (t : ℤ) (from : start_of r ≤ℤ t). ical-endless r (t +ℤ pos (period_of_rule n k))
      is_count ∙ ap (λ x. has_uncounted r (t +ℤ pos x)) period ∙ repeats r t m j is_until from some
      whole ∙ sym (ical-endless r t is_count) in
      framed-endless r (period_of_rule n k) here positive later (nat_le (period_of_rule n k) WIDTH)
      refl

  pub framed-is : IsFramed (has_ical r) (frame_of_ical r)
  unfolding frame_of_ical
  framed-is = framed-by r.until r.count refl refl

pub checked_ical_rules_repeat : RulesComeRound → IcalRulesRepeat → IcalIntervalFits → IcalValuesFit
    → UntilsAreOfYears → CheckedIcalRulesRepeat
checked_ical_rules_repeat round repeats interval values years r ok here =
    let least = (interval_is r.interval (interval r ok)).0 in
    let is = framed-is round repeats r here (omega (arith, ints, least))
    (until_is values r ok years) in
    (is.period, is.repeats, is.ends)
