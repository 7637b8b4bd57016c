-- Bounds of spans and runs.
use Rattle.std.specs.Prelude.{◌≡◌, ℤ, pos, ◌+ℤ◌, ◌-ℤ◌, ◌≤ℤ◌, Bool, true, ◌&&◌, int_le, Option, Some, None, if◌then◌else◌}
use Rattle.moment_core.specs.Line.{IsCalendarMoment, is_moment, moment_of, position_of}
use Rattle.moment_core.specs.declared.line.Pos.{Pos}
use Rattle.span_core.specs.declared.bounds.Bound.{Bound}
use Rattle.span_core.specs.declared.bounds.Bound.TheVariants.{Closed, Open, Inf, Edge}
use Rattle.span_core.specs.declared.bounds.Run.{Run}

-- a bound of a span: none, or at a moment of the calendar range
abbrev pub IsGiven : Bound → Type 0
IsGiven (Closed t) = IsCalendarMoment t.0
IsGiven (Open t) = IsCalendarMoment t.0
IsGiven Inf = Unit {0}
IsGiven Edge = ⊥

-- a moment of the bound is one of the calendar range
abbrev pub IsCalendarBound : Bound → Type 0
IsCalendarBound (Closed t) = IsCalendarMoment t.0
IsCalendarBound (Open t) = IsCalendarMoment t.0
IsCalendarBound Inf = Unit {0}
IsCalendarBound Edge = Unit {0}

abbrev pub IsCalendarRun : Run → Type 0
IsCalendarRun run = IsCalendarBound run.first × IsCalendarBound run.last

-- the position is not below a low bound
abbrev pub reaches : Bound → ℤ → Bool
reaches (Closed t) p = int_le (position_of t.0) p
reaches (Open t) p = int_le (position_of t.0 +ℤ pos 1) p
reaches Inf p = true
reaches Edge p = true

-- the position is not above a high bound
abbrev pub ends_after : Bound → ℤ → Bool
ends_after (Closed t) p = int_le p (position_of t.0)
ends_after (Open t) p = int_le (p +ℤ pos 1) (position_of t.0)
ends_after Inf p = true
ends_after Edge p = true

-- the position lies between the bounds
abbrev pub lies_between : Bound → Bound → ℤ → Bool
lies_between low high p = reaches low p && ends_after high p

-- the first position from a low bound on, and the last one up to a high bound, where there is one
abbrev pub first_from : Bound → Option Pos
first_from (Closed t) = Some (record { 0 = position_of t.0 })
first_from (Open t) = Some (record { 0 = position_of t.0 +ℤ pos 1 })
first_from Inf = None
first_from Edge = None

abbrev pub last_to : Bound → Option Pos
last_to (Closed t) = Some (record { 0 = position_of t.0 })
last_to (Open t) = Some (record { 0 = position_of t.0 -ℤ pos 1 })
last_to Inf = None
last_to Edge = None

-- the bounds of a span: given ones, between which some position lies
pub record IsSpan (low high : Bound) : Type 0 where
  pub low_given : IsGiven low
  pub high_given : IsGiven high
  pub some : (p : ℤ) × (lies_between low high p ≡ true)

-- the positions are one stretch: each position between two of them is one of them
abbrev pub IsOneStretch : (ℤ → Bool) → Type 0
IsOneStretch set = (p q r : ℤ) → p ≤ℤ q → q ≤ℤ r → set p ≡ true → set r ≡ true → set q ≡ true

-- the bounds of a run from its first to its last position: closed at a moment, open at an open
-- second
abbrev pub low_bound : ℤ → Bound
low_bound p =
    if is_moment p then Closed (record { 0 = moment_of p }) else Open (record { 0 = moment_of p })

abbrev pub high_bound : ℤ → Bound
high_bound p =
    if is_moment p then Closed (record { 0 = moment_of p })
    else Open (record { 0 = moment_of p +ℤ pos 1 })

abbrev pub run_between : ℤ → ℤ → Run
run_between first last = record { first = low_bound first; last = high_bound last }
