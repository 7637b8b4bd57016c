-- What field rules owe to those who search them.
use Rattle.std.specs.Prelude.{◌≡◌, Ok}
use Rattle.frame_core.specs.Frames.{HasPeriod, RepeatsIfFramed}
use Rattle.moment_core.specs.Sets.{moments_in}
use Rattle.rule_core.specs.FieldChecks.{check_of}
use Rattle.rule_core.specs.FieldMembers.{has_field}
use Rattle.rule_core.specs.declared.field.FieldRule.{FieldRule}
use Rattle.field_rules.specs.Rules.{frame_of_field}

-- a rule without a fault repeats by its frame
abbrev pub CheckedRulesRepeat : Type 0
CheckedRulesRepeat =
    (r : FieldRule) → check_of r ≡ Ok tt
    → HasPeriod (frame_of_field r) × RepeatsIfFramed (moments_in (has_field r)) (frame_of_field r)
