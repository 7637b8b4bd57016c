-- What a rule keeps to that `check` takes.
use Rattle.std.specs.Prelude.{◌≡◌, ℕ, ◌*◌, ◌<◌, ℤ, pos, neg_ℤ, ◌+ℤ◌, ◌≤ℤ◌, unsigned_abs, Bool, true, false, not, None, Ok}
use Rattle.std.specs.Int.{IsInRange}
use Rattle.std.specs.List.{AllPass}
use Rattle.moment_core.specs.Units.{units_of}
use Rattle.moment_core.specs.declared.line.Moment.{Moment}
use Rattle.moment_core.specs.declared.line.TheConstants.{G}
use Rattle.rule_core.specs.declared.field.FieldRule.{FieldRule}
use Rattle.rule_core.specs.declared.ical.IcalRule.{IcalRule}
use Rattle.rule_core.specs.declared.part.Part.{Part}
use Rattle.rule_core.specs.declared.part.RuleFault.{RuleFault}
use Rattle.rule_core.specs.FieldChecks.{check_of, counted, is_in_range, is_interval, is_mixed, values_of}
use Rattle.rule_core.specs.FieldMembers.{field_unit, first_weekday, has_field}
use Rattle.rule_core.specs.IcalChecks.{check_ical, is_bad_part, is_until, mixes_of}
use Rattle.rule_core.specs.IcalMembers.{has_uncounted, ical_unit}

-- each value of each field is in the field's range
abbrev pub FieldValuesFit : Type 0
FieldValuesFit =
    (r : FieldRule) (key : Part) → check_of r ≡ Ok tt
    → AllPass (is_in_range (counted r) key) (values_of r key)

-- only fields are given that the rule may give
abbrev pub FieldKeysFit : Type 0
FieldKeysFit = (r : FieldRule) (key : Part) → check_of r ≡ Ok tt → is_mixed r key ≡ false

abbrev pub FieldIntervalFits : Type 0
FieldIntervalFits = (r : FieldRule) → check_of r ≡ Ok tt → is_interval r.interval ≡ true

-- weeks begin on a weekday
abbrev pub WeekStartFits : Type 0
WeekStartFits = (r : FieldRule) → check_of r ≡ Ok tt → IsInRange 1 7 (first_weekday r.week_start)

-- m times 400 years that are a whole number of intervals on, the rule is met alike
abbrev pub FieldRulesRepeat : Type 0
FieldRulesRepeat =
    (r : FieldRule) (t : ℤ) (m j : ℕ) → 0 < unsigned_abs r.interval
    → m * units_of (field_unit r) ≡ j * unsigned_abs r.interval
    → has_field r (t +ℤ pos (m * G)) ≡ has_field r t

-- no part has a value out of its range
abbrev pub IcalValuesFit : Type 0
IcalValuesFit = (r : IcalRule) (part : Part) → check_ical r ≡ Ok tt → is_bad_part r part ≡ false

-- an UNTIL that may be is of the years 0000 to 9999
abbrev pub UntilsAreOfYears : Type 0
UntilsAreOfYears =
    (m : Moment) → is_until m ≡ true
    → (neg_ℤ (pos 62_167_219_200) ≤ℤ m.0) × (m.0 ≤ℤ pos 253_402_300_799)

-- all parts go together
abbrev pub IcalPartsFit : Type 0
IcalPartsFit =
    (r : IcalRule) → check_ical r ≡ Ok tt
    → AllPass (λ (mix : Bool × RuleFault). not mix.0) (mixes_of r)

abbrev pub IcalIntervalFits : Type 0
IcalIntervalFits = (r : IcalRule) → check_ical r ≡ Ok tt → is_interval r.interval ≡ true

-- without UNTIL and COUNT, the rule is met alike from DTSTART on
abbrev pub IcalRulesRepeat : Type 0
IcalRulesRepeat =
    (r : IcalRule) (t : ℤ) (m j : ℕ) → r.until ≡ None → r.start.moment.0 ≤ℤ t
    → 0 < unsigned_abs r.interval
    → m * units_of (ical_unit r) ≡ j * unsigned_abs r.interval
    → has_uncounted r (t +ℤ pos (m * G)) ≡ has_uncounted r t
