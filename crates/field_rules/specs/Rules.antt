-- What a field rule means: its members, its candidates and its frame.
use Rattle.std.specs.Prelude.{Option, unsigned_abs}
use Rattle.frame_core.specs.Periods.{in_width, period_of_rule}
use Rattle.frame_core.specs.declared.frames.Frame.{Frame}
use Rattle.moment_core.specs.Units.{units_of}
use Rattle.rule_core.specs.FieldMembers.{field_unit, has_field, is_field_candidate}
use Rattle.rule_core.specs.declared.field.FieldRule.{FieldRule}
use Rattle.stored_pair.specs.Meanings.{Meaning}
use Rattle.field_rules.specs.Leaves.{framed_everywhere}

-- a rule repeats everywhere, once both the calendar and the interval have come round
abbrev pub frame_of_field : FieldRule → Option Frame
frame_of_field r =
    framed_everywhere (in_width (period_of_rule (units_of (field_unit r))
    (unsigned_abs r.interval)))

abbrev pub meaning_of_field : FieldRule → Meaning
meaning_of_field r =
    record { member = has_field r; candidate = is_field_candidate r; frame = frame_of_field r }
