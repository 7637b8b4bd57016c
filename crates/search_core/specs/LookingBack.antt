-- How far durations and pairs look back from a position.
use Rattle.std.specs.Prelude.{ℕ, zero, suc, ℤ, pos, ◌-ℤ◌, Bool, ◌||◌, if◌then◌else◌}
use Rattle.std.specs.Int.{int_gap}
use Rattle.moment_core.specs.Line.{position_of}
use Rattle.moment_core.specs.declared.line.TheConstants.{LOW}

-- the latest of the n numbers up to z that passes; if there is none, the number before them
unfoldable pub latest : (ℤ → Bool) → ℤ → ℕ → ℤ
latest test z zero = z
latest test z (suc n) = if test z then z else latest test (z -ℤ pos 1) n

-- a position is a member of one of two sets
abbrev pub either : (ℤ → Bool) → (ℤ → Bool) → ℤ → Bool
either f g p = f p || g p

-- durations look back to the set's latest member above p - 2 * seconds; if there is none, to there
abbrev pub during_from : (ℤ → Bool) → ℤ → ℤ → ℤ
during_from set seconds p = latest set p (int_gap (pos 0) (position_of seconds))

-- pairs look back to the latest member of either set that isn't below the calendar range; if there
-- is none, to the range's first position, or to p where that lies below it
abbrev pub pairs_from : (ℤ → Bool) → (ℤ → Bool) → ℤ → ℤ
pairs_from opens closes p = latest (either opens closes) p (int_gap (position_of LOW) p)
