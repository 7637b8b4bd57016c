-- Moment literals: the bytes of a moment, and the form that they have.
use Rattle.std.specs.Prelude.{◌≡◌, ℕ, zero, suc, ◌+◌, ◌/◌, ◌%◌, ◌==◌, ℤ, pos, negsuc, unsigned_abs, Bool, true, false, ◌&&◌, ◌||◌, List, [], ◌∷◌, ◌++◌, length, take, codes, if◌then◌else◌}
use Rattle.std.specs.Char.{is_ascii_digit}
use Rattle.moment_core.specs.Calendar.{year_of, month_of, day_of_month}
use Rattle.moment_core.specs.TimeOfDay.{day_of, hour_of, minute_of, second_of}
use Rattle.moment_core.specs.Line.{IsCalendarMoment}
use Rattle.moment_core.specs.Texts.{zone_text}
use Rattle.moment_core.specs.declared.line.Stamp.{Stamp}

-- the last decimal digits of a number, as many as the width says, leading zeros kept
abbrev pub digits_of : ℕ → ℕ → List ℕ
digits_of zero n = []
digits_of (suc width) n = digits_of width (n / 10) ++ (48 + n % 10) ∷ []

-- a sign where the number is below 0
abbrev pub sign_of : ℤ → List ℕ
sign_of (pos n) = []
sign_of (negsuc n) = codes "-"

abbrev pub date_text : ℕ → ℕ → ℕ → List ℕ
date_text year month day =
    digits_of 4 year ++ codes "-" ++ digits_of 2 month ++ codes "-" ++ digits_of 2 day

abbrev pub time_text : ℕ → ℕ → ℕ → List ℕ
time_text hour minute second =
    digits_of 2 hour ++ codes ":" ++ digits_of 2 minute ++ codes ":" ++ digits_of 2 second

-- The literal of a moment t, a number of seconds, absolute or floating.
unfoldable pub literal_of : ℤ → Bool → List ℕ
literal_of t absolute =
    sign_of (year_of (day_of t))
    ++ date_text (unsigned_abs (year_of (day_of t))) (month_of (day_of t)) (day_of_month (day_of t))
    ++ codes "T" ++ time_text (hour_of t) (minute_of t) (second_of t) ++ zone_text absolute

-- The text is the literal of a moment of the calendar range.
pub record Names (text : List ℕ) (t : ℤ) (absolute : Bool) : Type 0 where
  pub is_literal : text ≡ literal_of t absolute
  pub in_range : IsCalendarMoment t

-- the literal of a moment of the calendar range, absolute or floating
abbrev pub IsStamp : List ℕ → Stamp → Type 0
IsStamp text stamp = Names text stamp.moment.0 stamp.absolute

-- any digit where the form has a 0, and otherwise the form's own byte
abbrev pub fits : ℕ → ℕ → Bool
fits mark b = if mark == 48 then is_ascii_digit b else b == mark

-- as many bytes as the form has, each fitting
unfoldable pub has_form : List ℕ → List ℕ → Bool
has_form [] [] = true
has_form [] (b ∷ bytes) = false
has_form (mark ∷ form) [] = false
has_form (mark ∷ form) (b ∷ bytes) = fits mark b && has_form form bytes

-- the form of a literal, with a sign or without and with a Z or without
abbrev pub form_of : Bool → Bool → List ℕ
form_of signed absolute =
    (if signed then codes "-" else []) ++ codes "0000-00-00T00:00:00" ++ zone_text absolute

-- The bytes have the form of a moment literal, which may name no moment.
unfoldable pub is_shaped : List ℕ → Bool
is_shaped bytes =
    has_form (form_of false false) bytes || has_form (form_of false true) bytes
    || has_form (form_of true false) bytes || has_form (form_of true true) bytes

-- the greatest of 1, 2, .. n that passes, or 0
unfoldable pub last_passing : (ℕ → Bool) → ℕ → ℕ
last_passing p zero = 0
last_passing p (suc n) = if p (suc n) then suc n else last_passing p n

-- How many bytes the longest front has that is shaped as a literal, or 0.
unfoldable pub shaped_front : List ℕ → ℕ
shaped_front bytes = last_passing (λ n. is_shaped (take n bytes)) (length bytes)
