-- What a literal says, and the reading of it from the front of a text.
use Rattle.std.specs.Prelude.{◌≡◌, ◌<◌, ℕ, zero, suc, ◌+◌, ◌*◌, ◌-◌, ℤ, pos, negsuc, unsigned_abs, Bool, true, false, ◌&&◌, ◌==◌, List, [], ◌∷◌, ◌++◌, codes, Option, Some, None, if◌then◌else◌}
use Rattle.std.specs.Char.{is_ascii_digit}
use denote.Ref.{Bor}
use Rattle.moment_core.specs.Calendar.{year_of, month_of, day_of_month}
use Rattle.moment_core.specs.Texts.{◌>>=◌, zone_text}
use Rattle.moment_core.specs.TimeOfDay.{day_of, hour_of, minute_of, second_of}
use Rattle.moment_text.specs.declared.parts.Date.{Date}
use Rattle.moment_text.specs.declared.parts.Time.{Time}
use Rattle.moment_text.specs.declared.parts.Literal.{Literal}
use Rattle.moment_text.specs.Literal.{date_text, time_text}

-- the bytes of a literal
abbrev pub text_of : Literal → List ℕ
text_of l =
    (if l.minus then codes "-" else []) ++ date_text l.date.year l.date.month l.date.day
    ++ codes "T" ++ time_text l.time.hour l.time.minute l.time.second ++ zone_text l.absolute

-- whether the number has a sign
abbrev pub is_below_zero : ℤ → Bool
is_below_zero (pos n) = false
is_below_zero (negsuc n) = true

-- the literal of a moment, absolute or floating
unfoldable pub parts_of : ℤ → Bool → Literal
parts_of t absolute = record {
  minus = is_below_zero (year_of (day_of t));
  date = record {
    year = unsigned_abs (year_of (day_of t));
    month = month_of (day_of t);
    day = day_of_month (day_of t);
  };
  time = record { hour = hour_of t; minute = minute_of t; second = second_of t };
  absolute = absolute;
}

-- the year that a sign and a number write: -0 is none
abbrev pub signed_year : Bool → ℕ → Option ℤ
signed_year false n = Some (pos n)
signed_year true zero = None
signed_year true (suc n) = Some (negsuc n)

-- each number has at most the digits that it is written with
pub record FitsDigits (l : Literal) : Type 0 where
  pub year : l.date.year < 10_000
  pub month : l.date.month < 100
  pub day : l.date.day < 100
  pub hour : l.time.hour < 100
  pub minute : l.time.minute < 100
  pub second : l.time.second < 100

-- what stands at the front of some bytes, and the bytes behind it
abbrev pub Front : Type 0 → Type 0
Front X = Option (X × List ℕ)

-- the number that two digits write
abbrev pub two_at : List ℕ → Front ℕ
two_at [] = None
two_at (a ∷ []) = None
two_at (a ∷ b ∷ rest) =
    if is_ascii_digit a && is_ascii_digit b then Some (10 * (a - 48) + (b - 48), rest) else None

-- the bytes behind a sign at the front
abbrev pub behind : ℕ → List ℕ → Option (List ℕ)
behind sign [] = None
behind sign (b ∷ rest) = if b == sign then Some rest else None

-- the bytes behind a sign that was found, or all of them
abbrev pub or_all : List ℕ → Option (List ℕ) → Bool × List ℕ
or_all bytes None = (false, bytes)
or_all bytes (Some rest) = (true, rest)

-- whether the sign stands at the front, and the bytes behind it
abbrev pub past : ℕ → List ℕ → Bool × List ℕ
past sign bytes = or_all bytes (behind sign bytes)

-- a date without its sign
unfoldable pub date_at : List ℕ → Front Date
date_at bytes = do
  high ← two_at bytes
  low ← two_at high.1
  months ← behind 45 low.1
  month ← two_at months
  days ← behind 45 month.1
  day ← two_at days
  Some (record { year = 100 * high.0 + low.0; month = month.0; day = day.0 }, day.1)

-- a time of day
unfoldable pub time_at : List ℕ → Front Time
time_at bytes = do
  hour ← two_at bytes
  minutes ← behind 58 hour.1
  minute ← two_at minutes
  seconds ← behind 58 minute.1
  second ← two_at seconds
  Some (record { hour = hour.0; minute = minute.0; second = second.0 }, second.1)

-- a literal without its sign
unfoldable pub unsigned_at : Bool → List ℕ → Front Literal
unsigned_at minus bytes = do
  date ← date_at bytes
  times ← behind 84 date.1
  time ← time_at times
  let zone = past 90 time.1
  Some (record { minus = minus; date = date.0; time = time.0; absolute = zone.0 }, zone.1)

-- a literal
unfoldable pub literal_at : List ℕ → Front Literal
literal_at bytes = let sign = past 45 bytes in unsigned_at sign.0 sign.1

-- what a function found at the front
abbrev pub Gives : {X : Type 0} → Option (X × Bor (List ℕ)) → Front X → Type 0
Gives None found = found ≡ None
Gives (Some x) found = found ≡ Some (x.0, x.1.now)

abbrev pub GivesRest : Option (Bor (List ℕ)) → Option (List ℕ) → Type 0
GivesRest None found = found ≡ None
GivesRest (Some x) found = found ≡ Some x.now
