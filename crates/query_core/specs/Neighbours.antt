-- The neighbours of a moment among the runs of any set of positions, where runs are those of the
-- calendar range. `window` gives for each direction and position the window after which the set
-- repeats from there, if there is one in the range.
use Rattle.std.specs.Prelude.{◌≡◌, ◌⊎◌, ℤ, ◌-ℤ◌, Bool, true, false, nat_lt, unsigned_abs, Option, Some, None, if◌then◌else◌}
use Rattle.moment_core.specs.Line.{IsCalendarPosition, position_of}
use Rattle.moment_core.specs.Sets.{IsNextBeginning, IsNextChange, NoneBegins, StaysInRange, range_end}
use Rattle.moment_core.specs.declared.line.Dir.{Dir}
use Rattle.moment_core.specs.declared.line.Dir.TheVariants.{Fore, Back}
use Rattle.moment_core.specs.declared.line.Moment.{Moment}
use Rattle.moment_core.specs.declared.line.Window.{Window}
use Rattle.span_core.specs.Answers.{IsFound}
use Rattle.span_core.specs.declared.answers.Answer.{Answer}
use Rattle.span_core.specs.declared.answers.Answer.TheVariants as answers
use Rattle.span_core.specs.declared.answers.Near.{Near}
use Rattle.span_core.specs.declared.answers.Near.TheVariants as nears
use Rattle.span_core.specs.declared.bounds.Bound.{Bound}
use Rattle.span_core.specs.declared.bounds.Bound.TheVariants.{Closed, Open, Inf, Edge}
use Rattle.span_core.specs.declared.bounds.Run.{Run}
use Rattle.run_search.specs.Runs.{IsFirstRun, item_between, item_from}

-- the run whose first position in the direction is near
abbrev pub IsRunFrom : (ℤ → Bool) → (Dir → ℤ → Option Window) → Dir → ℤ → Run → Type 0
IsRunFrom set window dir near run =
    (far : ℤ) × IsFirstRun set dir near (range_end dir) near far
    × (run ≡ item_from window dir near far)

-- z is the first position past the run of p, where p is a member whose run ends before the end of
-- the range; else it is p
abbrev pub IsPastRun : (ℤ → Bool) → Dir → ℤ → ℤ → Type 0
IsPastRun set dir p z =
    ((set p ≡ true) × IsNextChange set dir p z × IsCalendarPosition z)
    ⊎ ((set p ≡ true → StaysInRange set dir p) × (z ≡ p))

-- the answer at the first position past the run of p
abbrev pub IsFoundPastRun : (ℤ → Bool) → (Dir → ℤ → Option Window) → Dir → ℤ → Answer → Type 0
IsFoundPastRun set window dir p a =
    (z : ℤ) × IsPastRun set dir p z × IsFound set (window dir z) dir z a

-- the run that begins nearest past p in the range; where none begins there, what is found past the
-- run of p
abbrev pub IsNextPast : (ℤ → Bool) → (Dir → ℤ → Option Window) → Dir → ℤ → Near → Type 0
IsNextPast set window dir p (nears.Found run) =
    (near : ℤ) × IsCalendarPosition near × IsNextBeginning set dir p near
    × IsRunFrom set window dir near run
IsNextPast set window dir p (nears.None w) =
    NoneBegins set dir p × IsFoundPastRun set window dir p (answers.None w)
IsNextPast set window dir p nears.Edge =
    NoneBegins set dir p × IsFoundPastRun set window dir p answers.Edge
IsNextPast set window dir p (nears.Budget s) = ⊥

-- the next run past the moment: the first one that begins after it, or backwards the last one that
-- ends before it
abbrev pub IsNextRun : (ℤ → Bool) → (Dir → ℤ → Option Window) → Dir → ℤ → Near → Type 0
IsNextRun set window dir at near = IsNextPast set window dir (position_of at) near

-- the run that holds p
abbrev pub IsRunAround : (ℤ → Bool) → (Dir → ℤ → Option Window) → ℤ → Near → Type 0
IsRunAround set window p (nears.Found run) =
    (low : ℤ) × (high : ℤ) × IsFirstRun set Back p (range_end Back) p low
    × IsFirstRun set Fore p (range_end Fore) p high
    × (run ≡ item_between window low high)
IsRunAround set window p (nears.None w) = ⊥
IsRunAround set window p nears.Edge = ⊥
IsRunAround set window p (nears.Budget s) = ⊥

-- the run that holds the moment, else the last one that ends before it
abbrev pub IsCurrentRun : (ℤ → Bool) → (Dir → ℤ → Option Window) → ℤ → Near → Type 0
IsCurrentRun set window at near =
    ((set (position_of at) ≡ true) × IsRunAround set window (position_of at) near)
    ⊎ ((set (position_of at) ≡ false) × IsNextRun set window Back at near)

-- the moment of a bound
abbrev pub moment_at : Bound → Option Moment
moment_at (Closed t) = Some t
moment_at (Open t) = Some t
moment_at Inf = None
moment_at Edge = None

-- the later of two moments round another is nearer to it than the earlier one
abbrev pub is_later_nearer : ℤ → Option Moment → Option Moment → Bool
is_later_nearer at (Some before) (Some after) =
    nat_lt (unsigned_abs (after.0 -ℤ at)) (unsigned_abs (at -ℤ before.0))
is_later_nearer at before after = false

-- of two runs before and after a moment the nearer one, by the moments of their bounds on its side;
-- the earlier one on a tie
abbrev pub closer_run : ℤ → Run → Run → Run
closer_run at before after =
    if is_later_nearer at (moment_at before.last) (moment_at after.first) then after else before

-- of what is found before and after a moment: the closer run; the one that is found; or `Edge`
-- where either is, else what is found after
abbrev pub closer_of : ℤ → Near → Near → Near
closer_of at (nears.Found before) (nears.Found after) = nears.Found (closer_run at before after)
closer_of at (nears.Found before) (nears.None w) = nears.Found before
closer_of at (nears.Found before) nears.Edge = nears.Found before
closer_of at (nears.None w) after = after
closer_of at nears.Edge (nears.Found after) = nears.Found after
closer_of at before after = nears.Edge

-- the closer one of the two neighbours of a moment
abbrev pub IsRunBeside : (ℤ → Bool) → (Dir → ℤ → Option Window) → ℤ → Near → Type 0
IsRunBeside set window at near =
    (before : Near) × (after : Near) × IsNextRun set window Back at before
    × IsNextRun set window Fore at after
    × (near ≡ closer_of at before after)

-- the run that holds the moment, else the closer one of its two neighbours
abbrev pub IsClosestRun : (ℤ → Bool) → (Dir → ℤ → Option Window) → ℤ → Near → Type 0
IsClosestRun set window at near =
    ((set (position_of at) ≡ true) × IsRunAround set window (position_of at) near)
    ⊎ ((set (position_of at) ≡ false) × IsRunBeside set window at near)
