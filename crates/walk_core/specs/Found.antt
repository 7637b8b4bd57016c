-- What a step finds, before a walk or an end of a window tells it.
use Rattle.std.specs.Prelude.{◌≡◌, ◌⊎◌, ℕ, ℤ, Bool, true, false, Option}
use Rattle.moment_core.specs.Sets.{ahead, IsUpTo}
use Rattle.moment_core.specs.declared.line.Dir.{Dir}
use Rattle.moment_core.specs.declared.line.Window.{Window}
use Rattle.span_core.specs.declared.answers.Stop.{Stop}
use Rattle.span_core.specs.declared.answers.Token.{Token}
use Rattle.walk_core.specs.Steps.{IsAtEnd, IsFirstItem, IsStopOfStep, IsStopped}
use Rattle.walk_core.specs.declared.steps.Found.{Found}
use Rattle.walk_core.specs.declared.steps.Found.TheVariants as founds

-- the members right past the place are one stretch up to there, which ends with the end or right
-- before a position that is no member
pub record GoesOnTo (set : ℤ → Bool) (dir : Dir) (place end far : ℤ) : Type 0 where
  pub some : IsUpTo dir far place
  pub members : (q : ℤ) → IsUpTo dir q (ahead dir place 1) → IsUpTo dir far q → set q ≡ true
  pub within : IsUpTo dir end far
  pub ends : (far ≡ end) ⊎ (set (ahead dir far 1) ≡ false)

-- a stop within an open run: it is due, and where the search itself stopped, the positions past the
-- place, up to the stop, are members
abbrev pub IsOpenStop : (ℤ → Bool) → (Dir → ℤ → ℕ → Stop → Type 0) → Token → ℕ → Stop → Type 0
IsOpenStop set due t budget s =
    IsStopOfStep set due t budget s
    × (s.node ≡ 0 → IsUpTo t.dir t.end.0 s.at.0 × IsUpTo t.dir s.at.0 t.place.0
    × ((q : ℤ) → IsUpTo t.dir q (ahead t.dir t.place.0 1) → IsUpTo t.dir s.at.0 q → set q ≡ true))

-- the first item that is left, and the token right past it; or why nothing is left; or a stop that
-- is due, and a token from which the same is left
abbrev pub StepsTo : (ℤ → Bool) → (Dir → ℤ → ℕ → Stop → Type 0) → (Dir → ℤ → Option Window) → ℕ
    → Token → Found → Token → Type 0
StepsTo set due window budget t (founds.Given run) next = IsFirstItem set window t run next
StepsTo set due window budget t (founds.Done why) next = IsAtEnd set window t why × (next ≡ t)
StepsTo set due window budget t (founds.Stopped s) next = IsStopped set due window budget t s next
