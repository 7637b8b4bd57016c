-- UNTIL: its forms, the moment that it names, and its written form.
use Rattle.std.specs.Prelude.{ℕ, ◌+◌, ◌-◌, ◌/◌, ◌%◌, ◌==◌, nat_le, ℤ, pos, unsigned_abs, Bool, ◌&&◌, ◌||◌, List, [], ◌∷◌, ◌++◌, codes, length, take, drop, if◌then◌else◌}
use Rattle.std.specs.Char.{is_ascii_digit}
use Rattle.std.specs.List.{list_all}
use Rattle.std.specs.Str.{bytes_eq}
use Rattle.std.specs.Str.Parse.{digits_value}
use Rattle.moment_core.specs.Calendar.{is_leap, month_len, year_of, month_of, day_of_month}
use Rattle.moment_core.specs.Texts.{zone_text}
use Rattle.moment_core.specs.TimeOfDay.{day_of, hour_of, minute_of, second_of, seconds_of}

-- so many digits
abbrev pub are_digits : ℕ → List ℕ → Bool
are_digits width text = (length text == width) && list_all is_ascii_digit text

-- a date is eight digits, and a time of day stands behind a T and has six
unfoldable pub is_date : List ℕ → Bool
is_date text = are_digits 8 text

unfoldable pub is_date_time : List ℕ → Bool
is_date_time text =
    (length text == 15) && are_digits 8 (take 8 text) && bytes_eq (take 1 (drop 8 text)) (codes "T")
    && are_digits 6 (drop 9 text)

unfoldable pub ends_with_z : List ℕ → Bool
ends_with_z text = bytes_eq (drop (length text - 1) text) (codes "Z")

unfoldable pub without_z : List ℕ → List ℕ
without_z text = if ends_with_z text then take (length text - 1) text else text

-- a date, or a date with a time of day, and with a Z or without
unfoldable pub is_until_text : List ℕ → Bool
is_until_text text = is_date text || is_date_time (without_z text)

-- the calendar has this day, and the clock this time
abbrev pub is_civil : (year month day hour minute second : ℕ) → Bool
is_civil year month day hour minute second =
    nat_le 1 month && nat_le month 12 && nat_le 1 day
    && nat_le day (month_len (is_leap (pos year)) month)
    && nat_le hour 23 && nat_le minute 59 && nat_le second 59

-- Numbers that name no moment stand for one all the same, the first past the year 9999.
abbrev pub past_the_years : ℤ
past_the_years = pos 253_402_300_800

unfoldable pub named : (year month day hour minute second : ℕ) → ℤ
named year month day hour minute second =
    if is_civil year month day hour minute second
    then seconds_of (pos year) month day hour minute second
    else past_the_years

-- the number that so many digits write from a place on
abbrev pub number_in : ℕ → ℕ → List ℕ → ℕ
number_in start width digits = digits_value 10 (take width (drop start digits))

-- the moment of eight digits of a date and six of a time of day
unfoldable pub named_by : List ℕ → List ℕ → ℤ
named_by date time =
    named (number_in 0 4 date) (number_in 4 2 date) (number_in 6 2 date)
    (number_in 0 2 time) (number_in 2 2 time) (number_in 4 2 time)

-- the moment that the text names, a date being its last second
unfoldable pub until_at : List ℕ → ℤ
until_at text =
    if is_date text then named_by text (codes "235959")
    else if is_date_time (without_z text)
    then named_by (take 8 (without_z text)) (drop 9 (without_z text))
    else past_the_years

-- two digits
abbrev pub two_digits : ℕ → List ℕ
two_digits n = (48 + n / 10) ∷ (48 + n % 10) ∷ []

-- a date and a time of day, with a Z where they are absolute
abbrev pub fields_text : Bool → (year month day hour minute second : ℕ) → List ℕ
fields_text absolute year month day hour minute second =
    two_digits (year / 100) ++ two_digits (year % 100) ++ two_digits month ++ two_digits day
    ++ codes "T" ++ two_digits hour ++ two_digits minute ++ two_digits second ++ zone_text absolute

unfoldable pub until_text : Bool → ℤ → List ℕ
until_text absolute t =
    fields_text absolute (unsigned_abs (year_of (day_of t))) (month_of (day_of t))
    (day_of_month (day_of t)) (hour_of t) (minute_of t) (second_of t)
