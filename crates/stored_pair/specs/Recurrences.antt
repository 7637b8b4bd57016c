-- What is known of a recurrence.
use Rattle.std.specs.Prelude.{◌≡◌, ◌<◌, ℕ, ℤ, pos, neg_ℤ, ◌^◌, ◌≤ℤ◌, ◌<ℤ◌, Bool, true, false, Option, Some, None}
use Rattle.frame_core.specs.declared.frames.Frame.{Frame}
use Rattle.moment_core.specs.Line.{IsWorkingMoment}
use Rattle.moment_core.specs.Sets.{ahead, seen}
use Rattle.moment_core.specs.Steps.{IsNextCandidate, NoCandidateLeft}
use Rattle.moment_core.specs.declared.line.Dir.{Dir}
use Rattle.moment_core.specs.declared.line.Dir.TheVariants.{Fore, Back}
use Rattle.moment_core.specs.declared.line.Moment.{Moment}
use Rattle.moment_core.specs.declared.line.Step.{Step}
use Rattle.moment_core.specs.declared.line.Step.TheVariants.{Hit, Pass, End}

-- each member of the working range is a candidate
abbrev pub AreCandidates : (ℤ → Bool) → (ℤ → Bool) → Type 0
AreCandidates has cand = (t : ℤ) → IsWorkingMoment t → has t ≡ true → cand t ≡ true

-- no member lies between t and u, nor, where there is no u, up to the end of the working range
abbrev pub NoneUpTo : (ℤ → Bool) → Dir → ℤ → ℤ → Type 0
NoneUpTo has dir t u =
    (n : ℕ) → u ≡ ahead dir t n → (k : ℕ) → 0 < k → k < n → seen has dir t k ≡ false

abbrev pub SkipsNone : (ℤ → Bool) → Dir → ℤ → Step → Type 0
SkipsNone has dir t (Hit u) = NoneUpTo has dir t u.0
SkipsNone has dir t (Pass u) = NoneUpTo has dir t u.0
SkipsNone has dir t End =
    (k : ℕ) → 0 < k → IsWorkingMoment (ahead dir t k) → seen has dir t k ≡ false

abbrev pub SkipsNoMember : (ℤ → Bool) → ℤ → Step → Type 0
SkipsNoMember has t step = SkipsNone has Fore t step

abbrev pub SkipsNoEarlierMember : (ℤ → Bool) → ℤ → Step → Type 0
SkipsNoEarlierMember has t step = SkipsNone has Back t step

-- the nearest member past t in the direction, or none where none is left
abbrev pub IsNextMember : (ℤ → Bool) → Dir → ℤ → Option Moment → Type 0
IsNextMember has dir t (Some u) = IsNextCandidate has dir t u.0
IsNextMember has dir t None = NoCandidateLeft has dir t

-- u is a candidate past t in the direction, in the working range, and no member lies between
pub record LeadsTo (has cand : ℤ → Bool) (dir : Dir) (t u : ℤ) : Type 0 where
  pub working : IsWorkingMoment u
  pub candidate : cand u ≡ true
  pub later : (n : ℕ) × (u ≡ ahead dir t n) × (0 < n)
  pub none : NoneUpTo has dir t u

-- A step of a search for members: to the nearest member, or to a candidate before it that is none,
-- or nowhere where no member is left.
abbrev pub IsSearchStep : (ℤ → Bool) → (ℤ → Bool) → Dir → ℤ → Step → Type 0
IsSearchStep has cand dir t (Hit u) = LeadsTo has cand dir t u.0 × (has u.0 ≡ true)
IsSearchStep has cand dir t (Pass u) = LeadsTo has cand dir t u.0 × (has u.0 ≡ false)
IsSearchStep has cand dir t End = NoCandidateLeft has dir t

-- t and u are members of the working range, t the lesser, and no candidate lies between them
pub record AreNeighbours (has cand : ℤ → Bool) (t u : ℤ) : Type 0 where
  pub lesser_working : IsWorkingMoment t
  pub greater_working : IsWorkingMoment u
  pub lesser : has t ≡ true
  pub greater : has u ≡ true
  pub ordered : t <ℤ u
  pub none_between : (v : ℤ) → t <ℤ v → v <ℤ u → cand v ≡ false

-- a frame's ends fit sums with periods
pub record AreModest (f : Frame) : Type 0 where
  pub lo_low : neg_ℤ (pos (2 ^ 40)) ≤ℤ f.lo.0
  pub lo_high : f.lo.0 ≤ℤ pos (2 ^ 40)
  pub hi_low : neg_ℤ (pos (2 ^ 40)) ≤ℤ f.hi.0
  pub hi_high : f.hi.0 ≤ℤ pos (2 ^ 40)
