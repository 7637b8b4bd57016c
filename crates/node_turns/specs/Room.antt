-- How much room a tree has round a position: all at which it looks from there lies in the working
-- range.
use Rattle.std.specs.Prelude.{ℕ, ◌*◌, ℤ, pos, ◌+ℤ◌, ◌-ℤ◌, ◌≤ℤ◌}
use Rattle.moment_core.specs.Line.{position_of}
use Rattle.moment_core.specs.declared.line.TheConstants.{HIGH, LOW, REACH}

-- a position of the working range
abbrev pub IsWorkingPosition : ℤ → Type 0
IsWorkingPosition p =
    (position_of (LOW -ℤ REACH) ≤ℤ p) × (p ≤ℤ position_of (HIGH +ℤ REACH))

-- so many seconds on both sides of the position lie in the working range, and so they do for each
-- position of the calendar range
abbrev pub HasRoom : ℕ → ℤ → Type 0
HasRoom seconds p =
    (pos seconds ≤ℤ REACH)
    × ((position_of (LOW -ℤ REACH) +ℤ pos (2 * seconds)) ≤ℤ p)
    × ((p +ℤ pos (2 * seconds)) ≤ℤ position_of (HIGH +ℤ REACH))

-- between two positions with so much room each has as much
abbrev pub RoomLiesBetween : Type 0
RoomLiesBetween =
    (n : ℕ) (a b p : ℤ) → HasRoom n a → HasRoom n b → a ≤ℤ p → p ≤ℤ b → HasRoom n p
