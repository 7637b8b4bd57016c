-- The days on which the working range lies.
use Rattle.std.specs.Prelude.{ℤ, ◌+ℤ◌, ◌-ℤ◌, ◌≤ℤ◌}
use Rattle.moment_core.specs.declared.line.TheConstants.{LOW, HIGH, REACH}
use Rattle.moment_core.specs.TimeOfDay.{day_of}

-- a day of a moment of the working range
abbrev pub IsWorkingDay : ℤ → Type 0
IsWorkingDay day = (day_of (LOW -ℤ REACH) ≤ℤ day) × (day ≤ℤ day_of (HIGH +ℤ REACH))
