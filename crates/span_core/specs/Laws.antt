-- What the answers of searches owe, over any set of positions, and what the bounds of spans and
-- runs say of positions.
use Rattle.std.specs.Prelude.{◌≡◌, ◌↔◌, ℤ, ◌≤ℤ◌, Bool, true, int_le, Option, Some, None}
use Rattle.moment_core.specs.Line.{IsCalendarPosition}
use Rattle.moment_core.specs.declared.line.Dir.{Dir}
use Rattle.moment_core.specs.declared.line.Pos.{Pos}
use Rattle.moment_core.specs.declared.line.Window.{Window}
use Rattle.span_core.specs.Answers.{IsFound}
use Rattle.span_core.specs.Bounds.{ends_after, first_from, high_bound, last_to, lies_between, low_bound, reaches}
use Rattle.span_core.specs.declared.answers.Answer.{Answer}
use Rattle.span_core.specs.declared.bounds.Bound.{Bound}

-- every search has an answer, and no second one
abbrev pub SearchesAreAnswered : Type 0
SearchesAreAnswered =
    (set : ℤ → Bool) (window : Option Window) (dir : Dir) (p : ℤ) → IsCalendarPosition p
    → (a : Answer) × IsFound set window dir p a

abbrev pub AnswersAreUnique : Type 0
AnswersAreUnique =
    (set : ℤ → Bool) (window : Option Window) (dir : Dir) (p : ℤ) (a b : Answer)
    → IsFound set window dir p a → IsFound set window dir p b → a ≡ b

-- between the bounds of a run lie just the run's positions
abbrev pub RunsHoldTheirPositions : Type 0
RunsHoldTheirPositions =
    (first last p : ℤ)
    → (lies_between (low_bound first) (high_bound last) p ≡ true) ↔ ((first ≤ℤ p) × (p ≤ℤ last))

-- a low bound is reached from its first position on, or by all where it has none
abbrev pub LowBoundsBegin : Type 0
LowBoundsBegin =
    (low : Bound)
    → ((first : Pos) → first_from low ≡ Some first → (p : ℤ) → reaches low p ≡ int_le first.0 p)
    × (first_from low ≡ None → (p : ℤ) → reaches low p ≡ true)

-- a high bound is not passed up to its last position, or by none where it has none
abbrev pub HighBoundsEnd : Type 0
HighBoundsEnd =
    (high : Bound)
    → ((last : Pos) → last_to high ≡ Some last → (p : ℤ) → ends_after high p ≡ int_le p last.0)
    × (last_to high ≡ None → (p : ℤ) → ends_after high p ≡ true)
