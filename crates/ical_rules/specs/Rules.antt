-- What a rule of RFC 5545 (3.3.10) means: its members, its candidates and its frame.
use Rattle.std.specs.Prelude.{◌≡◌, ℕ, zero, suc, ◌==◌, ℤ, pos, ◌+ℤ◌, ◌-ℤ◌, unsigned_abs, int_le, Bool, true, ◌&&◌, ◌||◌, Option, Some, None, if◌then◌else◌}
use Rattle.std.specs.Ordering.{int_eq}
use Rattle.frame_core.specs.Frames.{framed}
use Rattle.frame_core.specs.Periods.{period_of_rule}
use Rattle.frame_core.specs.declared.frames.Frame.{Frame}
use Rattle.moment_core.specs.Line.{position_of}
use Rattle.moment_core.specs.Ranks.{count_to}
use Rattle.moment_core.specs.TimeOfDay.{second_of_day}
use Rattle.moment_core.specs.Units.{units_of}
use Rattle.moment_core.specs.declared.line.Moment.{Moment}
use Rattle.moment_core.specs.declared.line.TheConstants.{HIGH, REACH}
use Rattle.rule_core.specs.FieldMembers.{is_working}
use Rattle.rule_core.specs.IcalMembers.{has_ical, has_uncounted, ical_unit, is_by, meets_parts}
use Rattle.rule_core.specs.declared.ical.IcalRule.{IcalRule}
use Rattle.stored_pair.specs.Meanings.{Meaning}
use Rattle.ical_rules.specs.declared.outcome.Settled.{Settled}
use Rattle.ical_rules.specs.declared.outcome.Settled.TheVariants.{Last, Open}

-- the rule with another COUNT, and without one
abbrev pub with_count : Option ℤ → IcalRule → IcalRule
with_count count r = record r { count = count }

abbrev pub without_count : IcalRule → IcalRule
without_count r = with_count None r

-- DTSTART
abbrev pub start_of : IcalRule → ℤ
start_of r = r.start.moment.0

-- the first of the n moments from t on that passes a test
unfoldable pub first_of : (ℤ → Bool) → ℤ → ℕ → Option ℤ
first_of test t zero = None
first_of test t (suc n) = if test t then Some t else first_of test (t +ℤ pos 1) n

-- t is the member with this number, counted from DTSTART
abbrev pub is_member_number : IcalRule → ℤ → ℤ → Bool
is_member_number r number t =
    has_uncounted r t && int_eq (pos (count_to (has_uncounted r) (start_of r) t)) number

-- the COUNT-th member, where there is a COUNT and the working range holds that member
abbrev pub last_by : IcalRule → Option ℤ → Option ℤ
last_by r None = None
last_by r (Some count) =
    first_of (is_member_number r count) (start_of r)
    (unsigned_abs (HIGH +ℤ REACH +ℤ pos 1 -ℤ start_of r))

unfoldable pub last_counted : IcalRule → Option ℤ
last_counted r = last_by r r.count

-- not past the last member, where it is known
abbrev pub is_up_to : Option ℤ → ℤ → Bool
is_up_to None t = true
is_up_to (Some last) t = int_le t last

-- A place at which a search for members stops: from DTSTART up to UNTIL, the last member that COUNT
-- allows and the end of the working range, a midnight or a moment that meets the BY parts. The
-- interval and BYSETPOS are no part of it.
unfoldable pub is_ical_candidate : IcalRule → ℤ → Bool
is_ical_candidate r t =
    is_working t && int_le (start_of r) t && is_by r.until t && is_up_to (last_counted r) t
    && ((second_of_day t == 0) || meets_parts r t)

-- nothing changes before DTSTART; nor does anything past a last moment
abbrev pub framed_by : IcalRule → ℤ → ℕ → Option Frame
framed_by r hi period = framed (position_of (start_of r) -ℤ pos 1) hi period

abbrev pub framed_to : IcalRule → ℤ → Option Frame
framed_to r last = framed_by r (position_of last +ℤ pos 1) 1

-- from DTSTART on, once both the calendar and the interval have come round
abbrev pub framed_from_start : IcalRule → Option Frame
framed_from_start r =
    framed_by r (position_of (start_of r))
    (period_of_rule (units_of (ical_unit r)) (unsigned_abs r.interval))

-- a rule ends with UNTIL, or with the COUNT-th member, and otherwise goes on for ever; where the
-- working range doesn't hold that member, no frame is known
abbrev pub framed_last : IcalRule → Option ℤ → Option Frame
framed_last r None = None
framed_last r (Some last) = framed_to r last

abbrev pub framed_as : IcalRule → Option Moment → Option ℤ → Option Frame
framed_as r (Some until) count = framed_to r until.0
framed_as r None (Some count) = framed_last r (last_counted r)
framed_as r None None = framed_from_start r

unfoldable pub frame_of_ical : IcalRule → Option Frame
frame_of_ical r = framed_as r r.until r.count

abbrev pub meaning_of_ical : IcalRule → Meaning
meaning_of_ical r =
    record { member = has_ical r; candidate = is_ical_candidate r; frame = frame_of_ical r }

-- where the rule's COUNT ends it
abbrev pub IsSettled : IcalRule → Settled → Type 0
IsSettled r (Last t) = last_counted r ≡ Some t.0
IsSettled r Open = last_counted r ≡ None
