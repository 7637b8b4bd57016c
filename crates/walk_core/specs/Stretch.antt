-- What may be left of a window.
use Rattle.std.specs.Prelude.{◌≤ℤ◌}
use Rattle.moment_core.specs.Line.{position_of}
use Rattle.moment_core.specs.declared.line.Dir.{Dir}
use Rattle.moment_core.specs.declared.line.Dir.TheVariants.{Fore, Back}
use Rattle.moment_core.specs.declared.line.Pos.{Pos}
use Rattle.moment_core.specs.declared.line.TheConstants.{LOW, HIGH}
use Rattle.moment_core.specs.declared.line.Window.{Window}

-- positions of the range, maybe none
abbrev pub IsStretch : Window → Type 0
IsStretch w = (position_of LOW ≤ℤ w.lo.0) × (w.hi.0 ≤ℤ position_of HIGH)

-- the window from a place on, in the direction
abbrev pub window_from : Window → Dir → Pos → Window
window_from w Fore place = record { lo = place; hi = w.hi }
window_from w Back place = record { lo = w.lo; hi = place }
