-- The times of day that three masks let through, seen in a direction.
use Rattle.std.specs.Prelude.{◌≡◌, ◌<◌, ◌≤◌, ℕ, ◌+◌, ◌-◌, ◌/◌, ◌%◌, Bool, true, false, ◌&&◌, [], ◌∷◌, Option, Some, None}
use Rattle.moment_core.specs.declared.line.Dir.{Dir}
use Rattle.moment_core.specs.declared.line.Dir.TheVariants.{Fore, Back}
use Rattle.sieve_core.specs.declared.tables.Sieve.{Sieve}
use Rattle.sieve_core.specs.Bits.{has_bit}
use Rattle.sieve_core.specs.Members.{meets_masks}

-- number i of len, counted from the end where the direction is backwards
abbrev pub turn : Dir → ℕ → ℕ → ℕ
turn Fore len i = i
turn Back len i = len - (i + 1)

-- the least number from one on, below an end, that passes a test
pub record IsLeast (f : ℕ → Bool) (from end n : ℕ) : Type 0 where
  pub low : from ≤ n
  pub high : n < end
  pub meets : f n ≡ true
  pub none_before : (k : ℕ) → from ≤ k → k < n → f k ≡ false

abbrev pub IsLeastIn : (ℕ → Bool) → ℕ → ℕ → Option ℕ → Type 0
IsLeastIn f from end (Some n) = IsLeast f from end n
IsLeastIn f from end None = (k : ℕ) → from ≤ k → k < end → f k ≡ false

-- bit i of a mask of len bits
abbrev pub turned_bit : Dir → ℕ → ℕ → ℕ → Bool
turned_bit dir mask len i = has_bit (mask ∷ []) (turn dir len i)

-- a number of two digits, the lower below 60, passes by both digits
unfoldable pub both : (ℕ → Bool) → (ℕ → Bool) → ℕ → Bool
both p q n = p (n / 60) && q (n % 60)

-- the minute of the day, of 1440, has its hour and its minute in the masks
unfoldable pub meets_minute : Sieve → Dir → ℕ → Bool
meets_minute s dir = both (turned_bit dir s.hours 24) (turned_bit dir s.minutes 60)

-- the second of the day, of 86,400
unfoldable pub meets_second : Sieve → Dir → ℕ → Bool
meets_second s dir = both (meets_minute s dir) (turned_bit dir s.seconds 60)

-- the time of day by its second
unfoldable pub meets_time : Sieve → ℕ → Bool
meets_time s n = meets_masks s (n / 3600) (n / 60 % 60) (n % 60)
