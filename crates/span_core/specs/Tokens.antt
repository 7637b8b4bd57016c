-- Tokens: the places of walks.
use Rattle.std.proofs.Props.{props}
use Rattle.std.specs.Prelude.{ℤ, Option, Some, None}
use mathlib.Core.HLevel.{×_prop}
use Rattle.moment_core.specs.Line.{IsCalendarPosition}
use Rattle.moment_core.specs.Sets.{ahead, IsUpTo, range_begin}
use Rattle.moment_core.specs.declared.line.Dir.{Dir}
use Rattle.moment_core.specs.declared.line.Dir.TheVariants.{Fore, Back}
use Rattle.moment_core.specs.declared.line.Pos.{Pos}
use Rattle.span_core.specs.declared.answers.Token.{Token}

-- from the range's beginning come the open run's first position, the place, and the end; past the
-- end the place may be by one, where no run is open
abbrev pub IsPlaceFit : Dir → ℤ → ℤ → Option Pos → Type 0
IsPlaceFit dir place end None =
    IsUpTo dir place (range_begin dir) × IsUpTo dir (ahead dir end 1) place
IsPlaceFit dir place end (Some begun) =
    IsUpTo dir begun.0 (range_begin dir) × IsUpTo dir place begun.0 × IsUpTo dir end place

-- a token fits: its end is in the range, and so are its place and its open run
abbrev pub IsFit : Token → Type 0
IsFit t = IsCalendarPosition t.end.0 × IsPlaceFit t.dir t.place.0 t.end.0 t.begun

IsPlaceFit-prop : (dir : Dir) (place end : ℤ) (begun : Option Pos)
    → IsProp (IsPlaceFit dir place end begun)
IsPlaceFit-prop Fore place end None = hlevel props
IsPlaceFit-prop Fore place end (Some begun) = hlevel props
IsPlaceFit-prop Back place end None = hlevel props
IsPlaceFit-prop Back place end (Some begun) = hlevel props

IsCalendarPosition-prop : (p : ℤ) → IsProp (IsCalendarPosition p)
IsCalendarPosition-prop p = hlevel props

-- A token fits in one way at most, so that a walk that is prepared can hold that its token does.
pub IsFit-prop : (t : Token) → IsProp (IsFit t)
IsFit-prop t =
    ×_prop (IsCalendarPosition-prop t.end.0)
    (IsPlaceFit-prop t.dir t.place.0 t.end.0 t.begun)
