-- The written form of a rule.
use Rattle.std.specs.Prelude.{ℕ, ◌==◌, ℤ, pos, List, [], ◌∷◌, ◌++◌, flat_map, Option, Some, None, option_map, if◌then◌else◌}
use Rattle.std.specs.Fmt.{signed_decimal}
use Rattle.std.specs.Ordering.{int_eq}
use Rattle.moment_core.specs.declared.line.Moment.{Moment}
use Rattle.rule_core.specs.declared.ical.IcalRule.{IcalRule}
use Rattle.rule_core.specs.declared.part.Part.{Part}
use Rattle.rule_core.specs.declared.part.Part.TheVariants as parts
use Rattle.rrule_values.specs.Names.{day_name, freq_name}
use Rattle.rrule_values.specs.Until.{until_text}
use Rattle.rrule_values.specs.Writing.{item_text, list_text}
use Rattle.rrule_text.specs.Names.{key_of}

-- a list is written where there is something in it
abbrev pub listed_text : {X : Type 0} → (X → List ℕ) → List X → Option (List ℕ)
listed_text text [] = None
listed_text text (x ∷ xs) = Some (list_text text (x ∷ xs))

-- INTERVAL where it isn't 1, and WKST where it isn't MO
abbrev pub interval_text : ℤ → Option (List ℕ)
interval_text n = if int_eq n (pos 1) then None else Some (signed_decimal n)

abbrev pub week_start_text : ℕ → Option (List ℕ)
week_start_text day = if day == 1 then None else Some (day_name day)

-- the parts behind FREQ in the order of the written form, each with what is written of it
abbrev pub limits_of : IcalRule → List (Part × Option (List ℕ))
limits_of r =
    (parts.Until, option_map (λ (m : Moment). until_text r.until_z m.0) r.until)
    ∷ (parts.Count, option_map signed_decimal r.count)
    ∷ (parts.Interval, interval_text r.interval)
    ∷ []

abbrev pub days_of : IcalRule → List (Part × Option (List ℕ))
days_of r =
    (parts.ByMonth, listed_text signed_decimal r.by_month)
    ∷ (parts.ByWeekNo, listed_text signed_decimal r.by_week)
    ∷ (parts.ByYearDay, listed_text signed_decimal r.by_year_day)
    ∷ (parts.ByMonthDay, listed_text signed_decimal r.by_month_day)
    ∷ (parts.ByDay, listed_text item_text r.by_day)
    ∷ []

abbrev pub times_of : IcalRule → List (Part × Option (List ℕ))
times_of r =
    (parts.ByHour, listed_text signed_decimal r.by_hour)
    ∷ (parts.ByMinute, listed_text signed_decimal r.by_minute)
    ∷ (parts.BySecond, listed_text signed_decimal r.by_second)
    ∷ (parts.BySetPos, listed_text signed_decimal r.by_set_pos)
    ∷ (parts.Wkst, week_start_text r.week_start)
    ∷ []

abbrev pub others_of : IcalRule → List (Part × Option (List ℕ))
others_of r = limits_of r ++ days_of r ++ times_of r

abbrev pub piece_text : Part → List ℕ → List ℕ
piece_text part value = key_of part ++ value

-- a part that is written stands behind a semicolon
abbrev pub behind_sign : Part → Option (List ℕ) → List ℕ
behind_sign part None = []
behind_sign part (Some value) = 59 ∷ piece_text part value

abbrev pub part_text : Part × Option (List ℕ) → List ℕ
part_text part = behind_sign part.0 part.1

unfoldable pub text_of : IcalRule → List ℕ
text_of r = piece_text parts.Freq (freq_name r.freq) ++ flat_map part_text (others_of r)
