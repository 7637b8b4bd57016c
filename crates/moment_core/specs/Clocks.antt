-- Whose clock shows a moment.
use Rattle.std.specs.Prelude.{Bool, true, false, Option, Some, None, if◌then◌else◌}
use Rattle.moment_core.specs.declared.line.Clock.{Clock}
use Rattle.moment_core.specs.declared.line.Clock.TheVariants.{Any, Floating, Absolute}
use Rattle.moment_core.specs.declared.line.Stamp.{Stamp}

-- the clock on which a moment was written
abbrev pub clock_of_stamp : Stamp → Clock
clock_of_stamp stamp = if stamp.absolute then Absolute else Floating

-- the one clock of both, any giving way; none where two decided clocks differ
abbrev pub one_clock : Clock → Clock → Option Clock
one_clock Any b = Some b
one_clock a Any = Some a
one_clock Floating Floating = Some Floating
one_clock Absolute Absolute = Some Absolute
one_clock a b = None

-- moments on this clock are written with a Z
abbrev pub is_absolute : Clock → Bool
is_absolute Absolute = true
is_absolute clock = false
