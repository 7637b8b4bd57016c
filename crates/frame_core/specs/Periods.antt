-- Divisors and multiples of periods.
use Rattle.std.specs.Prelude.{◌<◌, ◌≤◌, ◌+◌, ◌*◌, ◌/◌, ◌%◌, ◌==◌, ◌&&◌, ℕ, zero, suc, nat_le, Option, Some, None, if◌then◌else◌}
use Rattle.std.specs.Int.{◌∣◌}
use Rattle.moment_core.specs.declared.line.TheConstants.{G, WIDTH}

-- the greatest of the numbers from 1 to n that divides both
unfoldable pub greatest_up_to : ℕ → ℕ → ℕ → ℕ
greatest_up_to zero a b = 0
greatest_up_to (suc n) a b =
    if a % suc n == 0 && b % suc n == 0 then suc n else greatest_up_to n a b

-- the greatest common divisor, and the least common multiple
unfoldable pub greatest_common : ℕ → ℕ → ℕ
greatest_common a b = greatest_up_to (a + b) a b

unfoldable pub least_common : ℕ → ℕ → ℕ
least_common a b = a * b / greatest_common a b

-- m is the least common multiple of a and b
pub record IsLeastCommon (a b m : ℕ) : Type 0 where
  pub positive : 0 < m
  pub of_left : a ∣ m
  pub of_right : b ∣ m
  pub least : (n : ℕ) → 0 < n → a ∣ n → b ∣ n → m ≤ n

-- the period of a rule that takes every `interval`th unit, of which there are `units` in 400 years:
-- both the calendar and the interval come round after it
unfoldable pub period_of_rule : ℕ → ℕ → ℕ
period_of_rule units interval = G * interval / greatest_common interval units

-- a period, where it is no longer than the calendar range
abbrev pub in_width : ℕ → Option ℕ
in_width n = if nat_le n WIDTH then Some n else None
