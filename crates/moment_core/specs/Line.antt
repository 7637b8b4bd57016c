-- The line: moments are whole numbers of seconds, and the position 2t is the moment t.
use Rattle.std.specs.Prelude.{ℤ, pos, ◌+ℤ◌, ◌-ℤ◌, ◌*ℤ◌, ◌≤ℤ◌, Bool}
use Rattle.std.specs.Int.{int_div_euclid}
use Rattle.std.specs.Ordering.{int_eq}
use Rattle.moment_core.specs.declared.line.TheConstants.{LOW, HIGH, REACH}

-- a moment of the calendar range
abbrev pub IsCalendarMoment : ℤ → Type 0
IsCalendarMoment t = (LOW ≤ℤ t) × (t ≤ℤ HIGH)

-- a moment of the working range
abbrev pub IsWorkingMoment : ℤ → Type 0
IsWorkingMoment t = ((LOW -ℤ REACH) ≤ℤ t) × (t ≤ℤ (HIGH +ℤ REACH))

-- the position of a moment
abbrev pub position_of : ℤ → ℤ
position_of t = pos 2 *ℤ t

-- the moment at or before a position
abbrev pub moment_of : ℤ → ℤ
moment_of p = int_div_euclid p (pos 2)

-- the position is a moment, and no open second
abbrev pub is_moment : ℤ → Bool
is_moment p = int_eq (position_of (moment_of p)) p

-- a position of the calendar range
abbrev pub IsCalendarPosition : ℤ → Type 0
IsCalendarPosition p = (position_of LOW ≤ℤ p) × (p ≤ℤ position_of HIGH)
