-- What a search for the beginning of a run answers.
use Rattle.std.specs.Prelude.{◌≡◌, ◌⊎◌, ℕ, ℤ, Bool, false, Option}
use Rattle.moment_core.specs.Sets.{ahead, IsUpTo, range_end}
use Rattle.moment_core.specs.declared.line.Dir.{Dir}
use Rattle.moment_core.specs.declared.line.Window.{Window}
use Rattle.span_core.specs.Answers.{IsFound}
use Rattle.span_core.specs.declared.answers.Answer.TheVariants as answers
use Rattle.span_core.specs.declared.answers.Stop.{Stop}
use Rattle.span_core.specs.declared.answers.Why.{Why}
use Rattle.span_core.specs.declared.answers.Why.TheVariants as whys
use Rattle.run_search.specs.Places.{IsPlaceWithin, IsStopFrom}
use Rattle.run_search.specs.Runs.{HasNoMember, IsFirstMember}
use Rattle.run_search.specs.declared.finding.Begun.{Begun}
use Rattle.run_search.specs.declared.finding.Begun.TheVariants as begins

-- why no member lies from the place up to the end: the place is past the end, or the end isn't the
-- range's own; else the answer
abbrev pub IsWhy : (ℤ → Bool) → (Dir → ℤ → Option Window) → Dir → ℤ → ℤ → Why → Type 0
IsWhy set window dir place end whys.To =
    (IsUpTo dir place (ahead dir end 1)) ⊎ (end ≡ range_end dir → ⊥)
IsWhy set window dir place end (whys.None w) =
    (end ≡ range_end dir) × IsUpTo dir end place
    × IsFound set (window dir place) dir place (answers.None w)
IsWhy set window dir place end whys.Edge =
    (end ≡ range_end dir) × IsUpTo dir end place
    × IsFound set (window dir place) dir place answers.Edge

-- the answer, where the end is the range's own; else that the end was reached
abbrev pub TellsWhy : Dir → ℤ → Why → Why → Type 0
TellsWhy dir end answer why =
    ((end ≡ range_end dir) × (why ≡ answer)) ⊎ ((end ≡ range_end dir → ⊥) × (why ≡ whys.To))

-- the first member from the place up to the end, which is the place or the nearest change past it;
-- or that there is none, and why; or a stop that is due there, where only non-members lie up to it
-- if the search itself stopped
abbrev pub BeginsBy : (ℤ → Bool) → (Dir → ℤ → ℕ → Stop → Type 0) → (Dir → ℤ → Option Window) → Dir
    → ℤ → ℤ → ℕ → Begun → Type 0
BeginsBy set due window dir place end budget (begins.At near) =
    IsFirstMember set dir place end near.0 × IsPlaceWithin set dir 1 place near.0
BeginsBy set due window dir place end budget (begins.Done why) =
    HasNoMember set dir place end × IsWhy set window dir place end why
BeginsBy set due window dir place end budget (begins.Stopped s) =
    (s.node ≡ 0 → set place ≡ false) × IsStopFrom set due dir place end budget s
