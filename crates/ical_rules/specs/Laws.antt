-- What rules of RFC 5545 owe to those who search them.
use Rattle.std.specs.Prelude.{◌≡◌, Ok, IfSome}
use Rattle.frame_core.specs.Frames.{HasPeriod, RepeatsIfFramed}
use Rattle.moment_core.specs.Line.{IsCalendarMoment}
use Rattle.moment_core.specs.Sets.{moments_in}
use Rattle.rule_core.specs.IcalChecks.{check_ical}
use Rattle.rule_core.specs.IcalMembers.{has_ical}
use Rattle.rule_core.specs.declared.ical.IcalRule.{IcalRule}
use Rattle.stored_pair.specs.Recurrences.{AreModest}
use Rattle.ical_rules.specs.Rules.{frame_of_ical, start_of}

-- a rule without a fault, with DTSTART in the calendar range, repeats by its frame, whose ends are
-- from -2^40 to 2^40
abbrev pub CheckedIcalRulesRepeat : Type 0
CheckedIcalRulesRepeat =
    (r : IcalRule) → check_ical r ≡ Ok tt → IsCalendarMoment (start_of r)
    → HasPeriod (frame_of_ical r) × RepeatsIfFramed (moments_in (has_ical r)) (frame_of_ical r)
    × IfSome (frame_of_ical r) AreModest
