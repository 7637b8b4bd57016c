-- Which field rules are none, and why.
use Rattle.std.specs.Prelude.{ℕ, ℤ, pos, neg_ℤ, Bool, true, false, not, ◌&&◌, ◌||◌, List, [], ◌∷◌, Option, option_map, Result, if◌then◌else◌}
use Rattle.std.specs.List.{list_any, find}
use Rattle.std.specs.Option.{option_or, option_to_list}
use Rattle.rule_core.specs.declared.field.FieldRule.{FieldRule}
use Rattle.rule_core.specs.declared.field.Counted.{Counted}
use Rattle.rule_core.specs.declared.field.Counted.TheVariants.{OfYear, OfMonth, OfWeek, Never}
use Rattle.rule_core.specs.declared.part.Freq.{Freq}
use Rattle.rule_core.specs.declared.part.Freq.TheVariants as freqs
use Rattle.rule_core.specs.declared.part.Part.{Part}
use Rattle.rule_core.specs.declared.part.Part.TheVariants.{Months, Weeks, Days, Hours, Minutes, Seconds, WeekStart}
use Rattle.rule_core.specs.declared.part.RuleFault.{RuleFault}
use Rattle.rule_core.specs.declared.part.RuleFault.TheVariants.{BadMix, BadValue, BadInterval}
use Rattle.rule_core.specs.Faults.{fault_where, judged}
use Rattle.rule_core.specs.Parts.{part_of}
use Rattle.rule_core.specs.Values.{is_given, is_within, is_signed}

-- the fields that only some rules may give, as they are printed
abbrev pub keys : List Part
keys = Months ∷ Weeks ∷ Days ∷ Hours ∷ Minutes ∷ Seconds ∷ WeekStart ∷ []

abbrev pub has_days : Freq → Bool
has_days freqs.Yearly = true
has_days freqs.Monthly = true
has_days freqs.Weekly = true
has_days freq = false

abbrev pub is_yearly : Freq → Bool
is_yearly freqs.Yearly = true
is_yearly freq = false

abbrev pub has_hours : Freq → Bool
has_hours freqs.Hourly = false
has_hours freqs.Minutely = false
has_hours freqs.Secondly = false
has_hours freq = true

abbrev pub has_minutes : Freq → Bool
has_minutes freqs.Minutely = false
has_minutes freqs.Secondly = false
has_minutes freq = true

abbrev pub has_seconds : Freq → Bool
has_seconds freqs.Secondly = false
has_seconds freq = true

abbrev pub has_weeks : Freq → Bool
has_weeks freqs.Yearly = true
has_weeks freqs.Weekly = true
has_weeks freq = false

-- whether a rule of this frequency may give the field
abbrev pub may_give : Freq → Part → Bool
may_give freq Months = is_yearly freq
may_give freq Weeks = is_yearly freq
may_give freq Days = has_days freq
may_give freq Hours = has_hours freq
may_give freq Minutes = has_minutes freq
may_give freq Seconds = has_seconds freq
may_give freq WeekStart = has_weeks freq
may_give freq key = true

abbrev pub values_of : FieldRule → Part → List ℤ
values_of r Months = r.months
values_of r Weeks = r.weeks
values_of r Days = r.days
values_of r Hours = r.hours
values_of r Minutes = r.minutes
values_of r Seconds = r.seconds
values_of r WeekStart = option_to_list r.week_start
values_of r key = []

-- what the days of a yearly rule count
abbrev pub counted_yearly : (months weeks days : Bool) → Counted
counted_yearly months weeks days =
    if weeks then OfWeek else if months || not days then OfMonth else OfYear

-- what the days of a rule count
abbrev pub counted_by : Freq → FieldRule → Counted
counted_by freqs.Yearly r = counted_yearly (is_given r.months) (is_given r.weeks) (is_given r.days)
counted_by freqs.Monthly r = OfMonth
counted_by freqs.Weekly r = OfWeek
counted_by freq r = Never

abbrev pub counted : FieldRule → Counted
counted r = counted_by r.freq r

abbrev pub most_days : Counted → ℕ
most_days OfYear = 366
most_days OfMonth = 31
most_days OfWeek = 7
most_days Never = 0

-- the range of a field's values
abbrev pub is_in_range : Counted → Part → ℤ → Bool
is_in_range c Months v = is_signed 12 v
is_in_range c Weeks v = is_signed 53 v
is_in_range c Days v = is_signed (most_days c) v
is_in_range c Hours v = is_within (neg_ℤ (pos 24)) (pos 23) v
is_in_range c Minutes v = is_within (neg_ℤ (pos 60)) (pos 59) v
is_in_range c Seconds v = is_within (neg_ℤ (pos 60)) (pos 59) v
is_in_range c WeekStart v = is_within (pos 1) (pos 7) v
is_in_range c key v = true

-- the field is given, and the rule may not give it
abbrev pub is_mixed : FieldRule → Part → Bool
is_mixed r key = is_given (values_of r key) && not (may_give r.freq key)

-- some value of the field is out of its range
abbrev pub is_bad : FieldRule → Part → Bool
is_bad r key = list_any (λ v. not (is_in_range (counted r) key v)) (values_of r key)

abbrev pub is_interval : ℤ → Bool
is_interval n = is_within (pos 1) (pos 1_000_000_000) n

-- the first field that the rule may not give, and the first with a value out of its range
unfoldable pub first_mixed : FieldRule → Option Part
first_mixed r = find (is_mixed r) keys

unfoldable pub first_bad : FieldRule → Option Part
first_bad r = find (is_bad r) keys

-- The first fault: a field that the rule may not give, months beside weeks, a value out of its
-- range, the interval.
abbrev pub check_of : FieldRule → Result (Unit {0}) RuleFault
check_of r =
    judged
    (option_or (option_map (BadMix (part_of r.freq)) (first_mixed r))
    (option_or (fault_where (is_given r.months && is_given r.weeks) (BadMix Months Weeks))
    (option_or (option_map BadValue (first_bad r))
    (fault_where (not (is_interval r.interval)) BadInterval))))
