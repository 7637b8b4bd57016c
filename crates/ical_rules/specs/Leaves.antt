-- A rule made ready to be searched.
use Rattle.std.specs.Prelude.{◌≡◌, ℤ, Bool, ◌&&◌, Option, Some, None, IfSome}
use Rattle.std.proofs.Props.{props}
use Rattle.frame_core.specs.Frames.{HasPeriod, RepeatsIfFramed, HasPeriod-prop, RepeatsIfFramed-prop}
use Rattle.frame_core.specs.declared.frames.Frame.{Frame}
use Rattle.moment_core.specs.Line.{IsWorkingMoment}
use Rattle.moment_core.specs.Ranks.{count_to}
use Rattle.moment_core.specs.Sets.{moments_in}
use Rattle.moment_core.specs.declared.line.Moment.{Moment}
use Rattle.rule_core.specs.IcalMembers.{is_within_count}
use Rattle.sieve_core.specs.Members.{has}
use Rattle.sieve_core.specs.Sieves.{IsSieve}
use Rattle.sieve_core.specs.declared.tables.Sieve.{Sieve}
use Rattle.sieve_tables.specs.Lowered.{has_until}
use Rattle.stored_pair.specs.Recurrences.{AreModest}

-- the members of a sieve's rule up to UNTIL, and of these the first so many
unfoldable pub has_counted : Sieve → Option Moment → Option ℤ → ℤ → Bool
has_counted s until count t =
    has_until s until t && is_within_count count (count_to (has_until s until) s.first.0 t)

-- in the working range the sieve has these members
pub record HasCounted (s : Sieve) (until : Option Moment) (count : Option ℤ) : Type 0 where
  pub sieve : IsSieve s
  pub working : (t : ℤ) → IsWorkingMoment t → has s t ≡ has_counted s until count t

-- a set of moments that repeats by a frame
pub record IsFramed (member : ℤ → Bool) (frame : Option Frame) : Type 0 where
  pub period : HasPeriod frame
  pub ends : IfSome frame AreModest
  pub repeats : RepeatsIfFramed (moments_in member) frame

-- in one way at most, so that a rule made ready can hold that it does

ends-prop : (o : Option Frame) → IsProp (IfSome o AreModest)
ends-prop None = hlevel props
ends-prop (Some frame) = hlevel props

pub IsFramed-prop : (member : ℤ → Bool) (frame : Option Frame) → IsProp (IsFramed member frame)
IsFramed-prop member frame x y = λ i. record {
  period = HasPeriod-prop frame x.period y.period i;
  ends = ends-prop frame x.ends y.ends i;
  repeats = RepeatsIfFramed-prop (moments_in member) frame x.repeats y.repeats i;
}
