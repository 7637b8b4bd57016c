-- The proleptic Gregorian calendar on all whole numbers. Day 0 is 1970-01-01, a Thursday.
use Rattle.std.specs.Prelude.{ℕ, zero, suc, ◌+◌, ◌-◌, ◌/◌, ◌%◌, Bool, not, ◌&&◌, ◌||◌, ◌==◌, nat_le, if◌then◌else◌, ℤ, pos, ◌+ℤ◌, ◌-ℤ◌, ◌*ℤ◌, unsigned_abs}
use Rattle.std.specs.Int.{int_div_euclid, int_rem_euclid}

-- z divided by n, rounded down, and what is left, from 0 to n - 1
abbrev pub floor_div : ℤ → ℕ → ℤ
floor_div z n = int_div_euclid z (pos n)

abbrev pub floor_mod : ℤ → ℕ → ℕ
floor_mod z n = unsigned_abs (int_rem_euclid z (pos n))

abbrev pub divides : ℕ → ℤ → Bool
divides n z = floor_mod z n == 0

-- every fourth year, but of the centuries only every fourth
unfoldable pub is_leap : ℤ → Bool
is_leap y = divides 4 y && (not (divides 100 y) || divides 400 y)

abbrev pub year_len : ℤ → ℕ
year_len y = if is_leap y then 366 else 365

-- thirty days have September, April, June and November
abbrev pub month_len : Bool → ℕ → ℕ
month_len leap m =
    if m == 2 then (if leap then 29 else 28)
    else (if (m == 4) || (m == 6) || (m == 9) || (m == 11) then 30 else 31)

-- the days of the first n years of a cycle, the 400 years from a multiple of 400
unfoldable pub days_of_years : ℕ → ℕ
days_of_years zero = 0
days_of_years (suc n) = days_of_years n + year_len (pos n)

-- the days of the first n months of a year
unfoldable pub days_of_months : Bool → ℕ → ℕ
days_of_months leap zero = 0
days_of_months leap (suc n) = days_of_months leap n + month_len leap (suc n)

-- the day number of 1 January: a cycle has 146,097 days, and the cycle of the year 0 began 719,528
-- days before 1970
unfoldable pub first_day : ℤ → ℤ
first_day y = floor_div y 400 *ℤ pos 146_097 +ℤ pos (days_of_years (floor_mod y 400)) -ℤ pos 719_528

-- the day number of a date
unfoldable pub day_number : ℤ → ℕ → ℕ → ℤ
day_number y m d = first_day y +ℤ pos (days_of_months (is_leap y) (m - 1) + d - 1)

-- the last of 0, 1, .. n that has begun by day r
unfoldable pub last_begun : (ℕ → ℕ) → ℕ → ℕ → ℕ
last_begun start zero r = 0
last_begun start (suc n) r = if nat_le (start (suc n)) r then suc n else last_begun start n r

-- the year of a day: 400 for each whole cycle, and the last year of the cycle that has begun
unfoldable pub year_of : ℤ → ℤ
year_of day =
    floor_div (day +ℤ pos 719_528) 146_097 *ℤ pos 400
    +ℤ pos (last_begun days_of_years 399 (floor_mod (day +ℤ pos 719_528) 146_097))

-- how many days of its year have passed
unfoldable pub days_into_year : ℤ → ℕ
days_into_year day = unsigned_abs (day -ℤ first_day (year_of day))

-- the month of a day: the last of its year that has begun
unfoldable pub month_of : ℤ → ℕ
month_of day = last_begun (days_of_months (is_leap (year_of day))) 11 (days_into_year day) + 1

unfoldable pub day_of_month : ℤ → ℕ
day_of_month day =
    days_into_year day - days_of_months (is_leap (year_of day)) (month_of day - 1) + 1

-- the weekday, from 1 for Monday to 7
unfoldable pub weekday_of : ℤ → ℕ
weekday_of day = floor_mod (day +ℤ pos 3) 7 + 1

-- the first day of the week of a day, where weeks begin on the weekday `first`
unfoldable pub week_start : ℕ → ℤ → ℤ
week_start first day = day -ℤ pos ((weekday_of day + 7 - first) % 7)

-- the first day of week 1 of a year: of the first week with at least four days in it, which is the
-- week of its fourth day
unfoldable pub week_one : ℕ → ℤ → ℤ
week_one first y = week_start first (first_day y +ℤ pos 3)

-- the year that a week belongs to: the year of its fourth day
unfoldable pub week_year_of : ℕ → ℤ → ℤ
week_year_of first day = year_of (week_start first day +ℤ pos 3)

-- the number of a week in that year
unfoldable pub week_of : ℕ → ℤ → ℕ
week_of first day = unsigned_abs (day -ℤ week_one first (week_year_of first day)) / 7 + 1

-- how many weeks the year has
unfoldable pub weeks_in_year : ℕ → ℤ → ℕ
weeks_in_year first y = unsigned_abs (week_one first (y +ℤ pos 1) -ℤ week_one first y) / 7

-- months counted from January of the year 0
unfoldable pub month_number : ℤ → ℤ
month_number day = year_of day *ℤ pos 12 +ℤ pos (month_of day - 1)

-- the first day of the month with a number
unfoldable pub month_first : ℤ → ℤ
month_first n = day_number (floor_div n 12) (floor_mod n 12 + 1) 1

-- weeks counted from the first one that begins on day 0 or later
unfoldable pub week_number : ℕ → ℤ → ℤ
week_number first day = floor_div (day -ℤ pos ((first + 3) % 7)) 7
