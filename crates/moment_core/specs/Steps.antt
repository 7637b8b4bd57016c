-- What a step along the candidates of a recurrence answers, in a direction.
use Rattle.std.specs.Prelude.{◌≡◌, ◌<◌, ℕ, ℤ, Bool, true, false}
use Rattle.moment_core.specs.Line.{IsWorkingMoment}
use Rattle.moment_core.specs.Sets.{ahead, seen}
use Rattle.moment_core.specs.declared.line.Dir.{Dir}
use Rattle.moment_core.specs.declared.line.Dir.TheVariants.{Fore, Back}
use Rattle.moment_core.specs.declared.line.Step.{Step}
use Rattle.moment_core.specs.declared.line.Step.TheVariants.{Hit, Pass, End}

-- the test is first met n steps on
pub record MeetsFirst (f : ℕ → Bool) (n : ℕ) : Type 0 where
  pub later : 0 < n
  pub meets : f n ≡ true
  pub none_before : (k : ℕ) → 0 < k → k < n → f k ≡ false

-- u is the nearest candidate past t, in the direction, and lies in the working range
abbrev pub IsNextCandidate : (ℤ → Bool) → Dir → ℤ → ℤ → Type 0
IsNextCandidate candidate dir t u =
    IsWorkingMoment u × ((n : ℕ) × (u ≡ ahead dir t n) × MeetsFirst (seen candidate dir t) n)

-- no candidate lies past t, in the direction, up to the end of the working range
abbrev pub NoCandidateLeft : (ℤ → Bool) → Dir → ℤ → Type 0
NoCandidateLeft candidate dir t =
    (k : ℕ) → 0 < k → IsWorkingMoment (ahead dir t k) → seen candidate dir t k ≡ false

-- the step tells the nearest candidate past t, in the direction, and whether it is a member
abbrev pub IsNextStep : (ℤ → Bool) → (ℤ → Bool) → Dir → ℤ → Step → Type 0
IsNextStep has candidate dir t (Hit u) = IsNextCandidate candidate dir t u.0 × (has u.0 ≡ true)
IsNextStep has candidate dir t (Pass u) = IsNextCandidate candidate dir t u.0 × (has u.0 ≡ false)
IsNextStep has candidate dir t End = NoCandidateLeft candidate dir t

-- the same upwards, from the least candidate after t
abbrev pub IsNext : (ℤ → Bool) → (ℤ → Bool) → ℤ → Step → Type 0
IsNext has candidate t step = IsNextStep has candidate Fore t step

-- and downwards, from the greatest candidate before t
abbrev pub IsPrevious : (ℤ → Bool) → (ℤ → Bool) → ℤ → Step → Type 0
IsPrevious has candidate t step = IsNextStep has candidate Back t step
