-- A moment as a day and a time of day.
use Rattle.std.specs.Prelude.{ℕ, ◌+◌, ◌*◌, ◌/◌, ◌%◌, ℤ, pos, ◌+ℤ◌, ◌*ℤ◌}
use Rattle.std.specs.Int.{IsInRange}
use Rattle.moment_core.specs.Calendar.{floor_div, floor_mod, is_leap, month_len, day_number}

-- the day number of a moment, and the seconds since its midnight
abbrev pub day_of : ℤ → ℤ
day_of t = floor_div t 86_400

abbrev pub second_of_day : ℤ → ℕ
second_of_day t = floor_mod t 86_400

abbrev pub hour_of : ℤ → ℕ
hour_of t = second_of_day t / 3600

abbrev pub minute_of : ℤ → ℕ
minute_of t = second_of_day t / 60 % 60

abbrev pub second_of : ℤ → ℕ
second_of t = second_of_day t % 60

-- the calendar has this day, and the clock this time
abbrev pub IsCivil : ℤ → ℕ → ℕ → ℕ → ℕ → ℕ → Type 0
IsCivil year month day hour minute second =
    IsInRange 1 12 month × IsInRange 1 (month_len (is_leap year) month) day
    × IsInRange 0 23 hour × IsInRange 0 59 minute × IsInRange 0 59 second

-- the moment of a date and a time
abbrev pub seconds_of : ℤ → ℕ → ℕ → ℕ → ℕ → ℕ → ℤ
seconds_of year month day hour minute second =
    day_number year month day *ℤ pos 86_400 +ℤ pos (hour * 3600 + minute * 60 + second)
