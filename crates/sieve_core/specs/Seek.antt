-- Where a search for members stops, and how far it has come.
use Rattle.std.specs.Prelude.{◌≡◌, ◌<◌, ◌≤◌, ℕ, ◌+◌, ◌-◌, Bool, true, ◌&&◌, ◌||◌, ◌==◌, unsigned_abs, false, [], ◌∷◌, ℤ, pos, neg_ℤ, ◌+ℤ◌, ◌-ℤ◌, ◌*ℤ◌, ◌≤ℤ◌, int_le}
use Rattle.moment_core.specs.Calendar.{divides, year_of, month_of, week_year_of, week_number}
use Rattle.moment_core.specs.declared.line.Dir.{Dir}
use Rattle.moment_core.specs.declared.units.Unit.{Unit as TimeUnit}
use Rattle.moment_core.specs.declared.units.Unit.TheVariants.{Year, WeekYear, Month, Week, Day}
use Rattle.civil_core.specs.declared.months.CivilMonth.{CivilMonth}
use Rattle.civil_core.specs.Months.{IsMonth}
use Rattle.sieve_core.specs.declared.tables.Sieve.{Sieve}
use Rattle.sieve_core.specs.Bits.{has_bit}
use Rattle.sieve_core.specs.Days.{meets_days}
use Rattle.moment_core.specs.Line.{IsWorkingMoment}
use Rattle.moment_core.specs.declared.line.TheConstants.{LOW, HIGH, REACH}
use Rattle.sieve_core.specs.Members.{has}
use Rattle.sieve_core.specs.Nearest.{IsPastNearEnd}
use Rattle.sieve_core.specs.Times.{meets_time, turn}
use Rattle.moment_core.specs.Sets.{ahead, seen}
use Rattle.moment_core.specs.declared.line.Dir.TheVariants.{Fore, Back}
use Rattle.moment_core.specs.TimeOfDay.{day_of, second_of_day}

-- day i of a month in a direction
abbrev pub day_at : CivilMonth → Dir → ℕ → ℤ
day_at m dir i = m.first +ℤ pos (turn dir m.len i)

-- a day of the working range
unfoldable pub is_working_day : ℤ → Bool
is_working_day d = int_le (neg_ℤ (pos 4_368_278)) d && int_le d (pos 2_929_587)

-- the interval, as far as it tells months
abbrev pub month_turn : TimeUnit → ℕ → ℤ → ℤ → ℕ → Bool
month_turn Year n phase y m = divides n (y -ℤ phase)
month_turn Month n phase y m = divides n (y *ℤ pos 12 +ℤ pos (m - 1) -ℤ phase)
month_turn u n phase y m = true

-- and as far as it tells days
abbrev pub day_turn : TimeUnit → ℕ → ℤ → ℤ → Bool
day_turn (WeekYear first) n phase d = divides n (week_year_of first d -ℤ phase)
day_turn (Week first) n phase d = divides n (week_number first d -ℤ phase)
day_turn Day n phase d = divides n (d -ℤ phase)
day_turn u n phase d = true

-- the month has its bit and its turn
abbrev pub is_month_open : Sieve → ℤ → ℕ → Bool
is_month_open s y m =
    ((s.days.months == 0) || has_bit (s.days.months ∷ []) m)
    && month_turn s.unit s.interval s.phase y m

-- a day of the working range that meets the tests of days, and the interval as far as it tells days
unfoldable pub is_sought_day : Sieve → ℤ → Bool
is_sought_day s d =
    is_working_day d && meets_days s.days d
    && month_turn s.unit s.interval s.phase (year_of d) (month_of d)
    && day_turn s.unit s.interval s.phase d

-- day i of a month in a direction is one
abbrev pub sought_at : Sieve → CivilMonth → Dir → ℕ → Bool
sought_at s m dir i = is_sought_day s (day_at m dir i)

-- no day from one on is
abbrev pub NoDaySought : Sieve → Dir → ℤ → Type 0
NoDaySought s dir d = (k : ℕ) → seen (is_sought_day s) dir d k ≡ false

-- how far a search has come among days
pub record IsDayReached (s : Sieve) (dir : Dir) (d : ℤ) (m : CivilMonth) (from : ℕ) : Type 0 where
  pub steps : ℕ
  pub place : day_at m dir from ≡ ahead dir d steps
  pub none_before : (k : ℕ) → k < steps → seen (is_sought_day s) dir d k ≡ false
  pub month : IsMonth m
  pub within : from < m.len
  pub working : is_working_day d ≡ true
  pub low : neg_ℤ (pos 4_500_000) ≤ℤ m.first
  pub high : m.first ≤ℤ pos 4_500_000

-- how far it can go on
abbrev pub days_left : Dir → ℤ → ℕ
days_left Fore d = unsigned_abs (pos 4_400_000 -ℤ d)
days_left Back d = unsigned_abs (d +ℤ pos 4_400_000)

-- and a time of such a day
unfoldable pub is_sought_moment : Sieve → ℤ → Bool
is_sought_moment s t = is_sought_day s (day_of t) && meets_time s (second_of_day t)

-- no moment from one on is met
abbrev pub NoMomentSought : Sieve → Dir → ℤ → Type 0
NoMomentSought s dir t = (k : ℕ) → seen (is_sought_moment s) dir t k ≡ false

-- how far a search has come among moments
pub record IsReached (s : Sieve) (dir : Dir) (t at : ℤ) : Type 0 where
  pub gap : ℕ
  pub place : at ≡ ahead dir t (gap + 1)
  pub none_before : (k : ℕ) → 0 < k → k ≤ gap → IsWorkingMoment (ahead dir t k)
      → seen (has s) dir t k ≡ false
  pub near : IsPastNearEnd s dir at
  pub working : IsWorkingMoment t

abbrev pub moments_left : Dir → ℤ → ℕ
moments_left Fore t = unsigned_abs (HIGH +ℤ REACH +ℤ pos 1 -ℤ t)
moments_left Back t = unsigned_abs (t -ℤ (LOW -ℤ REACH -ℤ pos 1))
