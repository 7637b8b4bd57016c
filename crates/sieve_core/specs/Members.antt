-- The candidates and the members of a sieve.
use Rattle.std.specs.Prelude.{ℕ, Bool, ◌&&◌, ◌||◌, ◌==◌, [], ◌∷◌, ℤ, ◌-ℤ◌, int_le}
use Rattle.moment_core.specs.declared.line.Dir.{Dir}
use Rattle.moment_core.specs.declared.line.Dir.TheVariants.{Fore, Back}
use Rattle.moment_core.specs.Calendar.{divides}
use Rattle.moment_core.specs.TimeOfDay.{day_of, second_of_day, hour_of, minute_of, second_of}
use Rattle.sieve_core.specs.declared.tables.Sieve.{Sieve}
use Rattle.sieve_core.specs.Bits.{has_bit, is_zero, is_in_signed}
use Rattle.sieve_core.specs.Days.{meets_days}
use Rattle.moment_core.specs.Ranks.{counts_with, rank_in}
use Rattle.moment_core.specs.Units.{unit_of}

abbrev pub is_midnight : ℤ → Bool
is_midnight t = second_of_day t == 0

-- from the first moment to the last
unfoldable pub is_between : Sieve → ℤ → Bool
is_between s t = int_le s.first.0 t && int_le t s.last.0

-- the hour, the minute and the second each have their bit
unfoldable pub meets_masks : Sieve → ℕ → ℕ → ℕ → Bool
meets_masks s hour minute second =
    has_bit (s.hours ∷ []) hour && has_bit (s.minutes ∷ []) minute
    && has_bit (s.seconds ∷ []) second

-- the tests of the day and of the time of day
unfoldable pub meets_tests : Sieve → ℤ → Bool
meets_tests s t =
    meets_days s.days (day_of t) && meets_masks s (hour_of t) (minute_of t) (second_of t)

-- one of every so many units, from the phase on in both directions
unfoldable pub meets_interval : Sieve → ℤ → Bool
meets_interval s t = divides s.interval (unit_of s.unit t -ℤ s.phase)

-- u counts for the ranks of t's unit
abbrev pub counts_for : Sieve → ℤ → ℤ → Bool
counts_for s t u = counts_with s.unit (meets_tests s) t u

-- the rank of t in its unit, from the unit's first moment that meets the tests or from its last
abbrev pub rank_of : Sieve → Dir → ℤ → ℕ
rank_of s dir t = rank_in s.unit (meets_tests s) dir t

-- the rank in the unit from its first moment, or from its last
unfoldable pub meets_rank : Sieve → ℤ → Bool
meets_rank s t = is_zero s.rank.0 || is_in_signed s.rank.0 (rank_of s Back t) (rank_of s Fore t)

-- a place at which a search stops: a midnight, or a moment that meets the tests
unfoldable pub is_mark : Sieve → ℤ → Bool
is_mark s t = is_midnight t || meets_tests s t

unfoldable pub is_candidate : Sieve → ℤ → Bool
is_candidate s t = is_between s t && is_mark s t

-- the tests, the interval and the rank, wherever the sieve's ends lie
unfoldable pub meets_rule : Sieve → ℤ → Bool
meets_rule s t = meets_tests s t && meets_interval s t && meets_rank s t

-- the members
unfoldable pub has : Sieve → ℤ → Bool
has s t = is_between s t && meets_rule s t
