-- The runs of a set in a stretch of positions, in the order of a direction, and the bounds of each.
-- `window` gives for each direction and position the window after which the set repeats from there,
-- if there is one in the range.
use Rattle.std.specs.Prelude.{◌≡◌, ◌⊎◌, ℤ, Bool, true, false, Option, Some, None, if◌then◌else◌}
use Rattle.std.specs.Ordering.{int_eq}
use Rattle.moment_core.specs.Line.{position_of}
use Rattle.moment_core.specs.Sets.{ahead, IsUpTo}
use Rattle.moment_core.specs.declared.line.Dir.{Dir}
use Rattle.moment_core.specs.declared.line.Dir.TheVariants.{Fore, Back}
use Rattle.moment_core.specs.declared.line.TheConstants.{LOW, HIGH}
use Rattle.moment_core.specs.declared.line.Window.{Window}
use Rattle.span_core.specs.Bounds.{high_bound, low_bound}
use Rattle.span_core.specs.declared.bounds.Bound.{Bound}
use Rattle.span_core.specs.declared.bounds.Bound.TheVariants as bounds
use Rattle.span_core.specs.declared.bounds.Run.{Run}

-- the positions from p up to the end are all as p is
abbrev pub IsSameUpTo : (ℤ → Bool) → Dir → ℤ → ℤ → Type 0
IsSameUpTo set dir p end = (q : ℤ) → IsUpTo dir q p → IsUpTo dir end q → set q ≡ set p

-- no member lies from p up to the end
abbrev pub HasNoMember : (ℤ → Bool) → Dir → ℤ → ℤ → Type 0
HasNoMember set dir p end = (q : ℤ) → IsUpTo dir q p → IsUpTo dir end q → set q ≡ false

-- near is the first member from p on, and not past the end
pub record IsFirstMember (set : ℤ → Bool) (dir : Dir) (p end near : ℤ) : Type 0 where
  pub from : IsUpTo dir near p
  pub none_before : (q : ℤ) → IsUpTo dir q p → IsUpTo dir near (ahead dir q 1) → set q ≡ false
  pub within : IsUpTo dir end near
  pub member : set near ≡ true

-- from p on, and not past the end, the members from near to far are the first run: none lies before
-- them, and they end with the end or right before a position that is no member
pub record IsFirstRun (set : ℤ → Bool) (dir : Dir) (p end near far : ℤ) : Type 0 where
  pub from : IsUpTo dir near p
  pub none_before : (q : ℤ) → IsUpTo dir q p → IsUpTo dir near (ahead dir q 1) → set q ≡ false
  pub some : IsUpTo dir far near
  pub members : (q : ℤ) → IsUpTo dir q near → IsUpTo dir far q → set q ≡ true
  pub within : IsUpTo dir end far
  pub ends : (far ≡ end) ⊎ (set (ahead dir far 1) ≡ false)

-- the bound of a run that comes last in the direction
abbrev pub far_of : Dir → Run → Bound
far_of Fore run = run.last
far_of Back run = run.first

-- the bound at the range's own end, by the window of the answer towards it: nothing differs for
-- ever, or up to there
abbrev pub beyond : Option Window → Bound
beyond (Some w) = bounds.Inf
beyond None = bounds.Edge

-- the bounds of the members from a lower to an upper position: at the range's own end by what lies
-- beyond, seen from the other one
abbrev pub low_end : (Dir → ℤ → Option Window) → ℤ → ℤ → Bound
low_end window low high =
    if int_eq low (position_of LOW) then beyond (window Back high) else low_bound low

abbrev pub high_end : (Dir → ℤ → Option Window) → ℤ → ℤ → Bound
high_end window low high =
    if int_eq high (position_of HIGH) then beyond (window Fore low) else high_bound high

abbrev pub item_between : (Dir → ℤ → Option Window) → ℤ → ℤ → Run
item_between window low high =
    record { first = low_end window low high; last = high_end window low high }

-- the same from their near to their far position in the direction
abbrev pub item_from : (Dir → ℤ → Option Window) → Dir → ℤ → ℤ → Run
item_from window Fore near far = item_between window near far
item_from window Back near far = item_between window far near
