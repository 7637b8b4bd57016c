-- The pieces of a text, each `NAME=VALUE`.
use Rattle.std.specs.Prelude.{ℕ, nat_eq, Bool, true, false, List, length, drop, Option, Some, None, is_some}
use Rattle.std.specs.List.{find, list_all, starts_with}
use Rattle.rule_core.specs.declared.part.Part.{Part}
use Rattle.rule_core.specs.declared.part.Part.TheVariants as parts
use Rattle.rrule_values.specs.Lists.{are_items, are_numbers}
use Rattle.rrule_values.specs.Names.{day_named, freq_named}
use Rattle.rrule_values.specs.Numbers.{number_at}
use Rattle.rrule_values.specs.Splitting.{split_at}
use Rattle.rrule_values.specs.Until.{is_until_text}
use Rattle.rrule_text.specs.Names.{key_of, parts_of_text}

-- the piece begins with the part's name and a `=`
unfoldable pub is_of : Part → List ℕ → Bool
is_of part piece = starts_with nat_eq piece (key_of part)

-- the part that the piece is of
unfoldable pub part_of_piece : List ℕ → Option Part
part_of_piece piece = find (λ part. is_of part piece) parts_of_text

-- what stands behind the name
abbrev pub value_in : Part → List ℕ → List ℕ
value_in part piece = drop (length (key_of part)) piece

-- the parts whose numbers may have a sign
abbrev pub has_signs : Part → Bool
has_signs parts.ByWeekNo = true
has_signs parts.ByYearDay = true
has_signs parts.ByMonthDay = true
has_signs parts.BySetPos = true
has_signs part = false

-- the form of the values of each part
unfoldable pub is_value : Part → List ℕ → Bool
is_value parts.Freq value = is_some (freq_named value)
is_value parts.Count value = is_some (number_at false value)
is_value parts.Interval value = is_some (number_at false value)
is_value parts.ByDay value = are_items value
is_value parts.Wkst value = is_some (day_named value)
is_value parts.Until value = is_until_text value
is_value part value = are_numbers (has_signs part) value

abbrev pub fits : List ℕ → Option Part → Bool
fits piece None = false
fits piece (Some part) = is_value part (value_in part piece)

unfoldable pub is_piece : List ℕ → Bool
is_piece piece = fits piece (part_of_piece piece)

-- each piece is of some part, with a value of its form
unfoldable pub are_pieces : List ℕ → Bool
are_pieces text = list_all is_piece (split_at 59 text)
