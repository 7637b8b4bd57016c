-- The test of days. Each table that isn't all zero is a test of its own.
use Rattle.std.specs.Prelude.{ℕ, ◌-◌, Bool, ◌&&◌, ◌||◌, ◌==◌, if◌then◌else◌, List, [], ◌∷◌, slice_index_or, ℤ}
use Rattle.std.specs.List.{list_all}
use Rattle.moment_core.specs.Calendar.{month_of, day_of_month, weekday_of, week_year_of, week_of, weeks_in_year}
use Rattle.moment_core.specs.Units.{year_len_of, month_len_of, day_of_year, nth_of, from_end}
use Rattle.sieve_core.specs.declared.tables.DayTest.{DayTest}
use Rattle.sieve_core.specs.Bits.{has_bit, is_zero, is_in_signed, meets_signed}

unfoldable pub meets_months : ℕ → ℤ → Bool
meets_months months day = (months == 0) || has_bit (months ∷ []) (month_of day)

-- the week of its week-year, where weeks begin on the weekday `first`
unfoldable pub meets_weeks : List ℕ → ℕ → ℤ → Bool
meets_weeks weeks first day =
    meets_signed weeks (weeks_in_year first (week_year_of first day)) (week_of first day)

unfoldable pub meets_year_days : List ℕ → ℤ → Bool
meets_year_days days day = meets_signed days (year_len_of day) (day_of_year day)

unfoldable pub meets_month_days : ℕ → ℤ → Bool
meets_month_days days day = meets_signed (days ∷ []) (month_len_of day) (day_of_month day)

-- v of n days is the nth of its weekday, from the front or from the end, for an n of the weekday's
-- signed table
abbrev pub is_nth : List ℕ → ℕ → ℕ → Bool
is_nth words n v = is_in_signed words (nth_of v) (nth_of (from_end n v))

-- the nth weekday of the month or of the year
unfoldable pub is_nth_weekday : List (List ℕ) → Bool → ℤ → Bool
is_nth_weekday nth in_month day =
    let words = slice_index_or nth (weekday_of day - 1) [] in
    if in_month then is_nth words (month_len_of day) (day_of_month day)
    else is_nth words (year_len_of day) (day_of_year day)

-- the weekday by itself, or the nth weekday
unfoldable pub meets_weekdays : ℕ → List (List ℕ) → Bool → ℤ → Bool
meets_weekdays week_days nth in_month day =
    ((week_days == 0) && list_all is_zero nth)
    || has_bit (week_days ∷ []) (weekday_of day)
    || is_nth_weekday nth in_month day

unfoldable pub meets_days : DayTest → ℤ → Bool
meets_days d day =
    meets_months d.months day && meets_weeks d.weeks d.first day && meets_year_days d.year_days day
    && meets_month_days d.month_days day && meets_weekdays d.week_days d.nth d.nth_in_month day
