-- The rank of a moment among those of its unit that meet a test, as BYSETPOS counts it (RFC 5545,
-- 3.3.10).
use Rattle.std.specs.Prelude.{ℕ, zero, suc, ◌+◌, ◌*◌, Bool, ◌&&◌, if◌then◌else◌, ℤ, pos, ◌+ℤ◌, ◌-ℤ◌, unsigned_abs}
use Rattle.std.specs.Ordering.{int_eq}
use Rattle.moment_core.specs.Sets.{seen}
use Rattle.moment_core.specs.Units.{unit_of}
use Rattle.moment_core.specs.declared.line.Dir.{Dir}
use Rattle.moment_core.specs.declared.line.Dir.TheVariants.{Fore}
use Rattle.moment_core.specs.declared.units.Unit.{Unit as TimeUnit}

-- how many of the numbers below n pass a test
unfoldable pub count_below : (ℕ → Bool) → ℕ → ℕ
count_below f zero = 0
count_below f (suc n) = count_below f n + (if f n then 1 else 0)

-- u lies in t's unit and meets the test
abbrev pub counts_with : TimeUnit → (ℤ → Bool) → ℤ → ℤ → Bool
counts_with unit test t u = int_eq (unit_of unit u) (unit_of unit t) && test u

-- how many moments of t's unit from t on in the direction, t included, meet the test: no unit has
-- 54 weeks
unfoldable pub rank_in : TimeUnit → (ℤ → Bool) → Dir → ℤ → ℕ
rank_in unit test dir t = count_below (seen (counts_with unit test t) dir t) (54 * 604_800)

-- how many moments from a start to t, both included, meet the test, where t is not before the start
unfoldable pub count_to : (ℤ → Bool) → ℤ → ℤ → ℕ
count_to test start t = count_below (seen test Fore start) (unsigned_abs (t +ℤ pos 1 -ℤ start))
