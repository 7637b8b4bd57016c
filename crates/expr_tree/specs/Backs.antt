-- What the numbers at or before one say of a set, so many of them.
use Rattle.std.specs.Prelude.{ℕ, zero, suc, ℤ, pos, ◌-ℤ◌, Bool, false, not, ◌&&◌, ◌||◌}

-- one of the n numbers up to z passes
unfoldable pub some_back : (ℤ → Bool) → ℤ → ℕ → Bool
some_back test z zero = false
some_back test z (suc n) = test z || some_back test (z -ℤ pos 1) n

-- one of the n numbers up to z opens, and none after it closes
unfoldable pub is_open : (opens closes : ℤ → Bool) → ℤ → ℕ → Bool
is_open opens closes z zero = false
is_open opens closes z (suc n) =
    opens z || (not (closes z) && is_open opens closes (z -ℤ pos 1) n)
