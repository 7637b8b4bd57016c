-- What follows from the steps of a recurrence.
use Rattle.std.specs.Prelude.{◌≡◌, ℤ, Bool}
use Rattle.moment_core.specs.Line.{IsWorkingMoment}
use Rattle.moment_core.specs.Steps.{IsNext, IsNextStep, IsPrevious}
use Rattle.moment_core.specs.declared.line.Dir.{Dir}
use Rattle.moment_core.specs.declared.line.Step.{Step}
use Rattle.moment_core.specs.declared.line.Step.TheVariants.{Hit}
use Rattle.stored_pair.specs.Recurrences.{AreCandidates, AreNeighbours, SkipsNone}

-- a step to the nearest candidate skips no member
abbrev pub StepsSkipNone : Type 0
StepsSkipNone =
    (has cand : ℤ → Bool) (dir : Dir) (t : ℤ) (step : Step) → AreCandidates has cand
    → IsWorkingMoment t → IsNextStep has cand dir t step → SkipsNone has dir t step

-- of two neighbours, the step after the lesser is the greater, and the step before the greater is
-- the lesser
abbrev pub NeighboursAreFound : Type 0
NeighboursAreFound =
    (has cand : ℤ → Bool) (t u : ℤ) (after before : Step) → AreCandidates has cand
    → AreNeighbours has cand t u → IsNext has cand t after → IsPrevious has cand u before
    → (after ≡ Hit (record { 0 = u })) × (before ≡ Hit (record { 0 = t }))
