-- Which rules of RFC 5545 are none, and why.
use Rattle.std.specs.Prelude.{ℕ, ℤ, pos, Bool, true, false, not, ◌&&◌, ◌||◌, List, [], ◌∷◌, Option, is_some, option_map, Result}
use Rattle.std.specs.List.{list_any, find}
use Rattle.std.specs.Option.{option_or, option_to_list}
use Rattle.std.specs.Ordering.{int_eq}
use Rattle.moment_core.specs.TimeOfDay.{seconds_of}
use Rattle.moment_core.specs.declared.line.Moment.{Moment}
use Rattle.rule_core.specs.declared.ical.IcalRule.{IcalRule}
use Rattle.rule_core.specs.declared.lists.DayItem.{DayItem}
use Rattle.rule_core.specs.declared.part.Freq.{Freq}
use Rattle.rule_core.specs.declared.part.Freq.TheVariants as freqs
use Rattle.rule_core.specs.declared.part.Part.{Part}
use Rattle.rule_core.specs.declared.part.Part.TheVariants as parts
use Rattle.rule_core.specs.declared.part.RuleFault.{RuleFault}
use Rattle.rule_core.specs.declared.part.RuleFault.TheVariants.{BadMix, BadValue, BadInterval}
use Rattle.rule_core.specs.Faults.{fault_where, first_fault, judged}
use Rattle.rule_core.specs.FieldChecks.{is_yearly, is_interval}
use Rattle.rule_core.specs.Values.{is_given, is_within, is_signed}

abbrev pub is_weekly : Freq → Bool
is_weekly freqs.Weekly = true
is_weekly freq = false

abbrev pub is_monthly : Freq → Bool
is_monthly freqs.Monthly = true
is_monthly freq = false

abbrev pub is_daily : Freq → Bool
is_daily freqs.Daily = true
is_daily freq = false

abbrev pub has_ordinal : DayItem → Bool
has_ordinal item = not (int_eq item.nth (pos 0))

abbrev pub is_bad_item : DayItem → Bool
is_bad_item item = has_ordinal item && not (is_signed 53 item.nth)

abbrev pub has_ordinals : IcalRule → Bool
has_ordinals r = list_any has_ordinal r.by_day

-- some BY part beside BYSETPOS
abbrev pub is_by_given : IcalRule → Bool
is_by_given r =
    is_given r.by_month || is_given r.by_week || is_given r.by_year_day || is_given r.by_month_day
    || is_given r.by_day || is_given r.by_hour || is_given r.by_minute || is_given r.by_second

-- what doesn't go together, in the order in which it is told
unfoldable pub mixes_of : IcalRule → List (Bool × RuleFault)
mixes_of r =
    (is_some r.until && is_some r.count, BadMix parts.Until parts.Count)
    ∷ (is_given r.by_week && not (is_yearly r.freq), BadMix parts.ByWeekNo parts.Freq)
    ∷ (
      is_given r.by_year_day
          && (is_daily r.freq || is_weekly r.freq || is_monthly r.freq),
      BadMix parts.ByYearDay parts.Freq,
    )
    ∷ (is_given r.by_month_day && is_weekly r.freq, BadMix parts.ByMonthDay parts.Freq)
    ∷ (has_ordinals r && not (is_monthly r.freq || is_yearly r.freq), BadMix parts.ByDay parts.Freq)
    ∷ (has_ordinals r && is_given r.by_week, BadMix parts.ByDay parts.ByWeekNo)
    ∷ (is_given r.by_set_pos && not (is_by_given r), BadMix parts.BySetPos parts.Freq)
    ∷ (r.until_z && not r.start.absolute, BadMix parts.Until parts.Dtstart)
    ∷ []

-- a moment of the years 0000 to 9999
unfoldable pub is_until : Moment → Bool
is_until m = is_within (seconds_of (pos 0) 1 1 0 0 0) (seconds_of (pos 9999) 12 31 23 59 59) m.0

-- the parts that have ranges, in the order of the written form
abbrev pub ranged : List Part
ranged =
    parts.Until ∷ parts.Count ∷ parts.ByMonth ∷ parts.ByWeekNo ∷ parts.ByYearDay ∷ parts.ByMonthDay
    ∷ parts.ByDay
    ∷ parts.ByHour ∷ parts.ByMinute ∷ parts.BySecond ∷ parts.BySetPos ∷ []

-- some value isn't from the lowest to the highest one, or not 1 to n or -1 to -n
abbrev pub is_outside : ℤ → ℤ → List ℤ → Bool
is_outside low high values = list_any (λ v. not (is_within low high v)) values

abbrev pub is_outside_signed : ℕ → List ℤ → Bool
is_outside_signed n values = list_any (λ v. not (is_signed n v)) values

-- some value of the part is out of its range
unfoldable pub is_bad_part : IcalRule → Part → Bool
is_bad_part r parts.Until = list_any (λ m. not (is_until m)) (option_to_list r.until)
is_bad_part r parts.Count = is_outside (pos 1) (pos 1_000_000_000) (option_to_list r.count)
is_bad_part r parts.ByMonth = is_outside (pos 1) (pos 12) r.by_month
is_bad_part r parts.ByWeekNo = is_outside_signed 53 r.by_week
is_bad_part r parts.ByYearDay = is_outside_signed 366 r.by_year_day
is_bad_part r parts.ByMonthDay = is_outside_signed 31 r.by_month_day
is_bad_part r parts.ByDay = list_any is_bad_item r.by_day
is_bad_part r parts.ByHour = is_outside (pos 0) (pos 23) r.by_hour
is_bad_part r parts.ByMinute = is_outside (pos 0) (pos 59) r.by_minute
is_bad_part r parts.BySecond = is_outside (pos 0) (pos 60) r.by_second
is_bad_part r parts.BySetPos = is_outside_signed 366 r.by_set_pos
is_bad_part r part = false

unfoldable pub first_bad_part : IcalRule → Option Part
first_bad_part r = find (is_bad_part r) ranged

-- The first fault: parts that don't go together, a value out of its range, the interval.
abbrev pub check_ical : IcalRule → Result (Unit {0}) RuleFault
check_ical r =
    judged
    (option_or (first_fault (mixes_of r))
    (option_or (option_map BadValue (first_bad_part r))
    (fault_where (not (is_interval r.interval)) BadInterval)))
