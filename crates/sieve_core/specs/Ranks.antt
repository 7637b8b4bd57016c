-- How ranks are counted: by the times of one day, and then day by day.
use Rattle.std.specs.Prelude.{◌≡◌, ◌<◌, ◌≤◌, ℕ, ◌+◌, ◌-◌, ◌*◌, ◌/◌, Bool, true, false, ℤ, pos, ◌+ℤ◌, ◌-ℤ◌, ◌≤ℤ◌}
use Rattle.moment_core.specs.declared.line.Dir.{Dir}
use Rattle.moment_core.specs.declared.line.TheConstants.{LOW, HIGH, REACH}
use Rattle.moment_core.specs.Line.{IsWorkingMoment}
use Rattle.moment_core.specs.Sets.{ahead, seen}
use Rattle.sieve_core.specs.declared.tables.Sieve.{Sieve}
use Rattle.moment_core.specs.declared.units.Unit.{Unit as TimeUnit}
use Rattle.moment_core.specs.declared.units.Unit.TheVariants.{Day, Hour, Minute, Second}
use Rattle.moment_core.specs.Ranks.{count_below}
use Rattle.sieve_core.specs.Members.{counts_for}

-- a number, or no more of it than matters
pub record IsCapped (cap n r : ℕ) : Type 0 where
  pub below : r < cap → r ≡ n
  pub above : cap ≤ r → cap ≤ n

-- so far from the ends of the working range that no unit leaves it
abbrev pub IsDeepMoment : ℤ → Type 0
IsDeepMoment t =
    ((LOW -ℤ REACH +ℤ pos 34_560_000) ≤ℤ t) × ((t +ℤ pos 34_560_000) ≤ℤ (HIGH +ℤ REACH))

-- a unit of one day or of days
abbrev pub is_of_days : TimeUnit → Bool
is_of_days Hour = false
is_of_days Minute = false
is_of_days Second = false
is_of_days Day = false
is_of_days u = true

-- where in its day the unit of a second ends
abbrev pub block_end : TimeUnit → ℕ → ℕ
block_end Hour n = n / 3600 * 3600 + 3600
block_end Minute n = n / 60 * 60 + 60
block_end Second n = n + 1
block_end u n = 86_400

-- what counts k steps on
abbrev pub counted : Sieve → Dir → ℤ → ℕ → Bool
counted s dir t k = seen (counts_for s t) dir t k

-- the count after some whole days, and the moment at which it goes on
pub record IsCounted (s : Sieve) (dir : Dir) (t : ℤ) (from day : ℕ) (at : ℤ)
    (count : ℕ) : Type 0 where
  pub place : at ≡ ahead dir t (86_400 - from + 86_400 * day)
  pub counts : count ≡ count_below (counted s dir t) (86_400 - from + 86_400 * day)
  pub most : count ≤ 86_400 * (day + 1)
  pub working : IsWorkingMoment at
  pub days : day ≤ 372
