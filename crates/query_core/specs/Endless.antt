-- What the answers of queries say of all whole numbers, past the calendar range too.
use Rattle.std.specs.Prelude.{◌≡◌, ◌+◌, ◌⊎◌, ℕ, ℤ, Bool, true, false}
use Rattle.moment_core.specs.Line.{position_of}
use Rattle.moment_core.specs.Sets.{seen, IsNextBeginning}
use Rattle.moment_core.specs.declared.line.Dir.{Dir}
use Rattle.moment_core.specs.declared.line.Dir.TheVariants.{Fore, Back}
use Rattle.span_core.specs.declared.answers.Near.{Near}
use Rattle.span_core.specs.declared.answers.Near.TheVariants as nears
use Rattle.run_search.specs.Endless.{HoldsForEver, NeverEnds}
use Rattle.run_search.specs.Runs.{far_of}

-- what the next run past p says: one without a bound at its far end never ends; where none begins
-- by the set's frame, none ever begins
abbrev pub IsForEver : (ℤ → Bool) → Dir → ℤ → Near → Type 0
IsForEver set dir p (nears.Found run) =
    (q : ℤ) × IsNextBeginning set dir p q × NeverEnds set dir q (far_of dir run)
IsForEver set dir p (nears.None w) =
    (k : ℕ) → seen set dir p (k + 1) ≡ true → seen set dir p k ≡ true
IsForEver set dir p nears.Edge = Unit {0}
IsForEver set dir p (nears.Budget s) = Unit {0}

-- what the run that holds p says: where it has no bound it never ends
abbrev pub IsForEverAround : (ℤ → Bool) → ℤ → Near → Type 0
IsForEverAround set p (nears.Found run) = HoldsForEver set p p run
IsForEverAround set p (nears.None w) = Unit {0}
IsForEverAround set p nears.Edge = Unit {0}
IsForEverAround set p (nears.Budget s) = Unit {0}

-- what the current run says
abbrev pub IsForEverCurrent : (ℤ → Bool) → ℤ → Near → Type 0
IsForEverCurrent set at near =
    ((set (position_of at) ≡ true) × IsForEverAround set (position_of at) near)
    ⊎ ((set (position_of at) ≡ false) × IsForEver set Back (position_of at) near)

-- what the closer one of two neighbours says: that of its own side; and where none is found, that
-- none ever is, on both sides
abbrev pub IsForEverBeside : (ℤ → Bool) → ℤ → Near → Type 0
IsForEverBeside set p (nears.Found run) =
    IsForEver set Back p (nears.Found run) ⊎ IsForEver set Fore p (nears.Found run)
IsForEverBeside set p (nears.None w) =
    IsForEver set Back p (nears.None w) × IsForEver set Fore p (nears.None w)
IsForEverBeside set p nears.Edge = Unit {0}
IsForEverBeside set p (nears.Budget s) = Unit {0}

-- what the closest run says
abbrev pub IsForEverClosest : (ℤ → Bool) → ℤ → Near → Type 0
IsForEverClosest set at near =
    ((set (position_of at) ≡ true) × IsForEverAround set (position_of at) near)
    ⊎ ((set (position_of at) ≡ false) × IsForEverBeside set (position_of at) near)
