-- The rule that a text writes, or its first fault.
use Rattle.std.specs.Prelude.{ℕ, ◌-◌, ℤ, pos, Bool, false, List, [], ◌∷◌, ◌++◌, codes, length, map, take, drop, Option, Some, None, option_map, Result, Ok, Err, if◌then◌else◌}
use Rattle.std.specs.Char.{to_ascii_uppercase}
use Rattle.std.specs.List.{filter_map, find, list_any}
use Rattle.std.specs.Str.{bytes_eq}
use Rattle.moment_core.specs.declared.line.Moment.{Moment}
use Rattle.moment_core.specs.declared.line.Stamp.{Stamp}
use Rattle.rule_core.specs.declared.lists.DayItem.{DayItem}
use Rattle.rule_core.specs.declared.ical.IcalRule.{IcalRule}
use Rattle.rule_core.specs.declared.part.Freq.{Freq}
use Rattle.rule_core.specs.declared.part.Part.{Part}
use Rattle.rule_core.specs.declared.part.Part.TheVariants as parts
use Rattle.rule_core.specs.declared.part.RuleFault.{RuleFault}
use Rattle.rule_core.specs.IcalChecks.{check_ical}
use Rattle.rrule_values.specs.Lists.{items_in, numbers_in}
use Rattle.rrule_values.specs.Names.{day_named, freq_named}
use Rattle.rrule_values.specs.Numbers.{number_at}
use Rattle.rrule_values.specs.Splitting.{split_at}
use Rattle.rrule_values.specs.Until.{ends_with_z, until_at}
use Rattle.rrule_text.specs.Fault.{Fault}
use Rattle.rrule_text.specs.Fault as faults
use Rattle.rrule_text.specs.Names.{key_of}
use Rattle.rrule_text.specs.Pieces.{is_of, part_of_piece, value_in, are_pieces, has_signs}

-- without a prefix, and without a sign at the end
unfoldable pub without_prefix : List ℕ → List ℕ
without_prefix text = if bytes_eq (take 6 text) (codes "RRULE:") then drop 6 text else text

unfoldable pub without_end : List ℕ → List ℕ
without_end text =
    if bytes_eq (drop (length text - 1) text) (codes ";") then take (length text - 1) text else text

-- the pieces with the signs between them, in upper case
unfoldable pub body_of : List ℕ → List ℕ
body_of text = without_end (without_prefix (map to_ascii_uppercase text))

-- what the first piece of a part says
unfoldable pub value_of : Part → List ℕ → Option (List ℕ)
value_of part body = option_map (value_in part) (find (is_of part) (split_at 59 body))

abbrev pub is_same : Part → Part → Bool
is_same a b = bytes_eq (key_of a) (key_of b)

-- the first part that was seen before
abbrev pub repeated_after : List Part → List Part → Option Part
repeated_after seen [] = None
repeated_after seen (part ∷ parts) =
    if list_any (is_same part) seen then Some part else repeated_after (seen ++ part ∷ []) parts

unfoldable pub parts_in : List ℕ → List Part
parts_in body = filter_map part_of_piece (split_at 59 body)

unfoldable pub first_repeated : List ℕ → Option Part
first_repeated body = repeated_after [] (parts_in body)

abbrev pub or_else : {X : Type 0} → X → Option X → X
or_else d None = d
or_else d (Some x) = x

abbrev pub then_read : {X Y : Type 0} → (X → Option Y) → Option X → Option Y
then_read f None = None
then_read f (Some x) = f x

unfoldable pub freq_in : List ℕ → Option Freq
freq_in body = then_read freq_named (value_of parts.Freq body)

unfoldable pub interval_in : List ℕ → ℤ
interval_in body = or_else (pos 1) (then_read (number_at false) (value_of parts.Interval body))

unfoldable pub until_in : List ℕ → Option Moment
until_in body = option_map (λ value. record { 0 = until_at value }) (value_of parts.Until body)

unfoldable pub until_z_in : List ℕ → Bool
until_z_in body = or_else false (option_map ends_with_z (value_of parts.Until body))

unfoldable pub count_in : List ℕ → Option ℤ
count_in body = then_read (number_at false) (value_of parts.Count body)

unfoldable pub by_day_in : List ℕ → List DayItem
by_day_in body = or_else [] (option_map items_in (value_of parts.ByDay body))

unfoldable pub list_in : Part → List ℕ → List ℤ
list_in part body = or_else [] (option_map (numbers_in (has_signs part)) (value_of part body))

unfoldable pub week_start_in : List ℕ → ℕ
week_start_in body = or_else 1 (then_read day_named (value_of parts.Wkst body))

-- the rule as it is written, which may be none
abbrev pub sketch_of : List ℕ → Stamp → Freq → IcalRule
sketch_of body start freq = record {
  freq = freq;
  interval = interval_in body;
  start = start;
  until = until_in body;
  until_z = until_z_in body;
  count = count_in body;
  by_month = list_in parts.ByMonth body;
  by_week = list_in parts.ByWeekNo body;
  by_year_day = list_in parts.ByYearDay body;
  by_month_day = list_in parts.ByMonthDay body;
  by_day = by_day_in body;
  by_hour = list_in parts.ByHour body;
  by_minute = list_in parts.ByMinute body;
  by_second = list_in parts.BySecond body;
  by_set_pos = list_in parts.BySetPos body;
  week_start = week_start_in body;
}

abbrev pub checked : IcalRule → Result (Unit {0}) RuleFault → Result IcalRule Fault
checked rule (Ok _) = Ok rule
checked rule (Err fault) = Err (faults.Rule fault)

abbrev pub unrepeated : Option Part → Result IcalRule Fault → Result IcalRule Fault
unrepeated None read = read
unrepeated (Some part) read = Err (faults.Repeated part)

abbrev pub with_freq : List ℕ → Stamp → Option Freq → Result IcalRule Fault
with_freq body start None = Err faults.Syntax
with_freq body start (Some freq) =
    unrepeated (first_repeated body)
    (checked (sketch_of body start freq) (check_ical (sketch_of body start freq)))

abbrev pub rule_in : List ℕ → Stamp → Result IcalRule Fault
rule_in body start =
    if are_pieces body then with_freq body start (freq_in body) else Err faults.Syntax

-- The rule of a text, or its first fault.
abbrev pub rule_of : List ℕ → Stamp → Result IcalRule Fault
rule_of text start = rule_in (body_of text) start
