-- The laws of steps on the line, and of what a search along it sees.
use Rattle.std.specs.Prelude.{◌≡◌, ℕ, ◌+◌, ◌≤◌, ℤ, pos, ◌+ℤ◌, ◌≤ℤ◌, Bool}
use Rattle.moment_core.specs.Line.{IsCalendarPosition, IsWorkingMoment, moment_of, position_of}
use Rattle.moment_core.specs.Sets.{IsNextChange, ahead, seen}
use Rattle.moment_core.specs.Steps.{IsNextStep}
use Rattle.moment_core.specs.declared.line.Dir.{Dir}
use Rattle.moment_core.specs.declared.line.Step.{Step}

-- no step leads nowhere, and so many steps and then so many more are as many as both
abbrev pub StepsAdd : Type 0
StepsAdd =
    (dir : Dir) (p : ℤ)
    → (ahead dir p 0 ≡ p) × ((m n : ℕ) → ahead dir (ahead dir p m) n ≡ ahead dir p (m + n))

-- other numbers of steps lead to other places
abbrev pub StepsTellApart : Type 0
StepsTellApart = (dir : Dir) (p : ℤ) (m n : ℕ) → ahead dir p m ≡ ahead dir p n → m ≡ n

-- what is seen from a place further on is what is seen beyond it
abbrev pub SightsFollow : Type 0
SightsFollow =
    (set : ℤ → Bool) (dir : Dir) (p : ℤ)
    → (seen set dir p 0 ≡ set p)
    × ((m n : ℕ) → seen set dir (ahead dir p m) n ≡ seen set dir p (m + n))

-- a moment has its own position, and each position is a moment or the open second after one
abbrev pub PositionsHaveMoments : Type 0
PositionsHaveMoments =
    ((t : ℤ) → moment_of (position_of t) ≡ t)
    × ((p : ℤ) → (position_of (moment_of p) ≤ℤ p) × (p ≤ℤ (position_of (moment_of p) +ℤ pos 1)))

-- the calendar range of positions and the working range of moments have no gaps
abbrev pub RangesHaveNoGaps : Type 0
RangesHaveNoGaps =
    (dir : Dir) (p : ℤ) (k n : ℕ) → k ≤ n
    → (IsCalendarPosition p → IsCalendarPosition (ahead dir p n)
    → IsCalendarPosition (ahead dir p k))
    × (IsWorkingMoment p → IsWorkingMoment (ahead dir p n) → IsWorkingMoment (ahead dir p k))

-- a set has one next change at most
abbrev pub NextChangesAreOne : Type 0
NextChangesAreOne =
    (set : ℤ → Bool) (dir : Dir) (p q r : ℤ) → IsNextChange set dir p q → IsNextChange set dir p r
    → q ≡ r

-- a step along candidates has one answer at most
abbrev pub NextStepsAreOne : Type 0
NextStepsAreOne =
    (has candidate : ℤ → Bool) (dir : Dir) (t : ℤ) (a b : Step)
    → IsNextStep has candidate dir t a → IsNextStep has candidate dir t b → a ≡ b
