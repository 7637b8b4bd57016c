-- The places of each query, and its answer or a stop that is due at one of them.
use Rattle.std.specs.Prelude.{◌≡◌, ◌⊎◌, ℕ, ℤ, Bool, true, false, Result, Ok, Err}
use Rattle.moment_core.specs.Line.{position_of}
use Rattle.moment_core.specs.declared.line.Dir.{Dir}
use Rattle.moment_core.specs.declared.line.Dir.TheVariants.{Back}
use Rattle.span_core.specs.declared.answers.Near.{Near}
use Rattle.span_core.specs.declared.answers.Near.TheVariants as nears
use Rattle.span_core.specs.declared.answers.Stop.{Stop}
use Rattle.run_search.specs.Places.{IsStopAt, PlacesWithin}

-- the places of `next` and `previous`: the moment's position and the two nearest changes past it
abbrev pub PlacesOfNext : (ℤ → Bool) → Dir → ℤ → Dir → ℤ → Type 0
PlacesOfNext set dir at = PlacesWithin set dir 2 (position_of at)

-- those of the run that holds p: p, both ways
abbrev pub PlacesAround : ℤ → Dir → ℤ → Type 0
PlacesAround p d place = place ≡ p

-- those of `current`: of the run that holds the moment; else those of `previous`
abbrev pub PlacesOfCurrent : (ℤ → Bool) → ℤ → Dir → ℤ → Type 0
PlacesOfCurrent set at d place =
    ((set (position_of at) ≡ true) × PlacesAround (position_of at) d place)
    ⊎ ((set (position_of at) ≡ false) × PlacesOfNext set Back at d place)

-- those of both neighbours of a moment
abbrev pub PlacesBeside : (ℤ → Bool) → ℤ → Dir → ℤ → Type 0
PlacesBeside set at d place = PlacesOfNext set d at d place

-- those of `closest`: of the run that holds the moment; else those of `previous` and `next`
abbrev pub PlacesOfClosest : (ℤ → Bool) → ℤ → Dir → ℤ → Type 0
PlacesOfClosest set at d place =
    ((set (position_of at) ≡ true) × PlacesAround (position_of at) d place)
    ⊎ ((set (position_of at) ≡ false) × PlacesBeside set at d place)

-- the answer, or a stop that is due for the budget at one of the places
abbrev pub AnswersOrStops : (Near → Type 0) → (Dir → ℤ → Type 0) → (Dir → ℤ → ℕ → Stop → Type 0) → ℕ
    → Near → Type 0
AnswersOrStops answer places due budget (nears.Found run) = answer (nears.Found run)
AnswersOrStops answer places due budget (nears.None w) = answer (nears.None w)
AnswersOrStops answer places due budget nears.Edge = answer nears.Edge
AnswersOrStops answer places due budget (nears.Budget s) = IsStopAt places due budget s

-- no search stopped
abbrev pub IsAnswered : Near → Type 0
IsAnswered (nears.Found run) = Unit {0}
IsAnswered (nears.None w) = Unit {0}
IsAnswered nears.Edge = Unit {0}
IsAnswered (nears.Budget s) = ⊥

-- what was found, or the stop
abbrev pub told : Result Near Stop → Near
told (Ok near) = near
told (Err s) = nears.Budget s
