-- The rule of RFC 5545 that a text stands for, and its fault.
use Rattle.std.specs.Prelude.{ℕ, List, Option, Some, None, Result, Ok, Err}
use Rattle.moment_core.specs.declared.line.Stamp.{Stamp}
use Rattle.rule_core.specs.declared.ical.IcalRule.{IcalRule}
use Rattle.rrule_text.specs.Fault.{Fault}
use Rattle.rrule_text.specs.Reading.{rule_of}

abbrev pub rule_in : Result IcalRule Fault → Option IcalRule
rule_in (Ok rule) = Some rule
rule_in (Err fault) = None

abbrev pub fault_of : Result IcalRule Fault → Option Fault
fault_of (Ok rule) = None
fault_of (Err fault) = Some fault

-- the rule, where the literal of its start names a moment and the text has no fault
abbrev pub rrule_from : List ℕ → Option Stamp → Option IcalRule
rrule_from text None = None
rrule_from text (Some s) = rule_in (rule_of text s)

-- why the text is none of a rule
abbrev pub fault_of_text : List ℕ → Option Stamp → Option Fault
fault_of_text text None = None
fault_of_text text (Some s) = fault_of (rule_of text s)
