-- What a search for the next change answers, over any set of positions.
use Rattle.std.specs.Prelude.{◌≡◌, ◌<◌, ◌≤◌, ℕ, ℤ, pos, ◌+ℤ◌, ◌-ℤ◌, Bool, Option, Some, None}
use Rattle.moment_core.specs.Line.{IsCalendarMoment, IsCalendarPosition, moment_of, position_of}
use Rattle.moment_core.specs.Sets.{ahead, seen, IsNextChange, StaysInRange, IsUpTo}
use Rattle.moment_core.specs.declared.line.Dir.{Dir}
use Rattle.moment_core.specs.declared.line.Dir.TheVariants.{Fore, Back}
use Rattle.moment_core.specs.declared.line.TheConstants.{LOW, HIGH}
use Rattle.moment_core.specs.declared.line.Window.{Window}
use Rattle.span_core.specs.declared.answers.Answer.{Answer}
use Rattle.span_core.specs.declared.answers.Answer.TheVariants.{At, None as Never, Edge, Budget}
use Rattle.span_core.specs.declared.answers.Item.{Item}
use Rattle.span_core.specs.declared.answers.Item.TheVariants as items
use Rattle.span_core.specs.declared.answers.Near.{Near}
use Rattle.span_core.specs.declared.answers.Near.TheVariants as nears
use Rattle.span_core.specs.declared.answers.Stop.{Stop}
use Rattle.span_core.specs.declared.answers.Why.TheVariants as whys
use Rattle.span_core.specs.Bounds.{IsCalendarRun}

-- the answer at p, where `window` is the one after which the set repeats, if there is one in the
-- range: the nearest position of the range past p that differs; else the window; else the range's
-- end
abbrev pub IsFound : (ℤ → Bool) → Option Window → Dir → ℤ → Answer → Type 0
IsFound set window dir p (At q) = IsNextChange set dir p q.0 × IsCalendarPosition q.0
IsFound set window dir p (Never w) = StaysInRange set dir p × (window ≡ Some w)
IsFound set window dir p Edge = StaysInRange set dir p × (window ≡ None)
IsFound set window dir p (Budget s) = ⊥

-- where a search ends
abbrev pub end_of : Dir → Answer → ℤ
end_of dir (At q) = q.0
end_of Fore (Never w) = w.hi.0
end_of Back (Never w) = w.lo.0
end_of Fore Edge = position_of HIGH
end_of Back Edge = position_of LOW
end_of dir (Budget s) = s.at.0

-- what is counted between two positions, from p to the position n steps on
abbrev pub counted_to : (ℤ → ℤ → ℕ) → Dir → ℤ → ℕ → ℕ
counted_to count Fore p n = count p (p +ℤ pos n)
counted_to count Back p n = count (p -ℤ pos n) p

-- a search from p may stop n steps on: nothing differs so far, the search has not ended,
-- and the candidates that were passed are at least the budget
pub record StopsAt (set : ℤ → Bool) (candidates : ℤ → ℤ → ℕ) (window : Option Window) (dir : Dir)
    (p : ℤ) (budget : ℕ) (s : Stop) (n : ℕ) : Type 0 where
  pub search : s.node ≡ 0
  pub later : 0 < n
  pub place : s.at.0 ≡ ahead dir p n
  pub in_range : IsCalendarPosition s.at.0
  pub stays : (k : ℕ) → k ≤ n → seen set dir p k ≡ set p
  pub within : (a : Answer) → IsFound set window dir p a → IsUpTo dir (end_of dir a) s.at.0
  pub used : budget ≤ counted_to candidates dir p n

-- the answer, or a stop that is due, where `due` says which stops are due in a direction, at a
-- place, for a budget, and `window` gives the window for each direction and place
abbrev pub IsAnswer : (ℤ → Bool) → (Dir → ℤ → ℕ → Stop → Type 0) → (Dir → ℤ → Option Window) → Dir
    → ℤ → ℕ → Answer → Type 0
IsAnswer set due window dir p budget (Budget s) = due dir p budget s
IsAnswer set due window dir p budget (At q) = IsFound set (window dir p) dir p (At q)
IsAnswer set due window dir p budget (Never w) = IsFound set (window dir p) dir p (Never w)
IsAnswer set due window dir p budget Edge = IsFound set (window dir p) dir p Edge

-- the moments at or before the ends of a window are of the calendar range
abbrev pub IsCalendarWindow : Window → Type 0
IsCalendarWindow w = IsCalendarMoment (moment_of w.lo.0) × IsCalendarMoment (moment_of w.hi.0)

-- so is each moment of a neighbour
abbrev pub IsCalendarNear : Near → Type 0
IsCalendarNear (nears.Found run) = IsCalendarRun run
IsCalendarNear (nears.None w) = IsCalendarWindow w
IsCalendarNear nears.Edge = Unit {0}
IsCalendarNear (nears.Budget s) = Unit {0}

-- and of an item of a walk
abbrev pub IsCalendarItem : Item → Type 0
IsCalendarItem (items.Run run) = IsCalendarRun run
IsCalendarItem (items.Done whys.To) = Unit {0}
IsCalendarItem (items.Done (whys.None w)) = IsCalendarWindow w
IsCalendarItem (items.Done whys.Edge) = Unit {0}
IsCalendarItem (items.Budget token) = Unit {0}
