-- The nth day of a month among those of its weekday (the ordinals of BYDAY in RFC 5545, 3.3.10).
use Rattle.std.specs.Prelude.{◌≡◌, ℕ, ℤ, true}
use Rattle.std.specs.Int.{IsInRange}
use Rattle.moment_core.specs.Calendar.{day_number, is_leap, month_len, weekday_of}
use Rattle.moment_core.specs.TimeOfDay.{seconds_of}
use Rattle.moment_core.specs.Units.{is_nth}

-- the month has this day, which is of the weekday and is the nth such day, from the month's end
-- where n is negative
pub record IsNthDay (year : ℤ) (month : ℕ) (n : ℤ) (weekday day : ℕ) : Type 0 where
  pub in_year : IsInRange 1 12 month
  pub in_month : IsInRange 1 (month_len (is_leap year) month) day
  pub on_weekday : weekday_of (day_number year month day) ≡ weekday
  pub nth : is_nth n (month_len (is_leap year) month) day ≡ true

-- t is the midnight with which that day begins
abbrev pub IsNthMidnight : ℤ → ℕ → ℤ → ℕ → ℤ → Type 0
IsNthMidnight year month n weekday t =
    (day : ℕ) × IsNthDay year month n weekday day × (t ≡ seconds_of year month day 0 0 0)
