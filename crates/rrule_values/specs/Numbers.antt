-- Numbers and weekdays as they are written.
use Rattle.std.specs.Prelude.{ℕ, ◌-◌, ◌==◌, nat_le, ℤ, pos, Bool, true, false, ◌&&◌, List, [], ◌∷◌, length, take, drop, Option, Some, None, option_map, if◌then◌else◌}
use Rattle.std.specs.Char.{is_ascii_digit}
use Rattle.std.specs.List.{list_all}
use Rattle.std.specs.Ordering.{int_eq}
use Rattle.std.specs.Str.Parse.{digits_value}
use Rattle.moment_core.specs.Texts.{with_sign}
use Rattle.rule_core.specs.declared.lists.DayItem.{DayItem}
use Rattle.rrule_values.specs.Names.{day_named}

-- 1 to 10 digits
unfoldable pub is_digits : List ℕ → Bool
is_digits bytes =
    nat_le 1 (length bytes) && nat_le (length bytes) 10 && list_all is_ascii_digit bytes

unfoldable pub digits_at : Bool → List ℕ → Option ℤ
digits_at minus digits =
    if is_digits digits then Some (with_sign minus (digits_value 10 digits)) else None

-- digits, behind a sign or without one where signs are allowed
unfoldable pub number_at : Bool → List ℕ → Option ℤ
number_at signed [] = None
number_at signed (b ∷ digits) =
    if signed && (b == 43) then digits_at false digits
    else if signed && (b == 45) then digits_at true digits
    else digits_at false (b ∷ digits)

-- an ordinal that is written as 0 is one all the same, out of its range
abbrev pub beyond : ℤ
beyond = pos 54

abbrev pub ordinal_of : ℤ → ℤ
ordinal_of n = if int_eq n (pos 0) then beyond else n

-- no ordinal, or one
unfoldable pub ordinal_at : List ℕ → Option ℤ
ordinal_at [] = Some (pos 0)
ordinal_at (b ∷ bytes) = option_map ordinal_of (number_at true (b ∷ bytes))

abbrev pub item_with : Option ℤ → Option ℕ → Option DayItem
item_with None day = None
item_with (Some nth) None = None
item_with (Some nth) (Some day) = Some (record { nth = nth; day = day })

-- a weekday's name behind its ordinal
unfoldable pub item_at : List ℕ → Option DayItem
item_at bytes =
    if nat_le 2 (length bytes)
    then
    item_with (ordinal_at (take (length bytes - 2) bytes))
    (day_named (drop (length bytes - 2) bytes))
    else None
