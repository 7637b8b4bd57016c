-- Sets that repeat from somewhere on, both ways.
use Rattle.std.specs.Prelude.{◌≡◌, ◌*◌, ◌≤◌, ℕ, ℤ, pos, ◌+ℤ◌, ◌-ℤ◌, ◌≤ℤ◌, Bool, ◌&&◌, int_le, nat_le, Option, Some, None, IfSome, if◌then◌else◌}
use Rattle.std.specs.Int.{int_max, int_min}
use Rattle.std.proofs.Props.{props}
use Rattle.moment_core.specs.Line.{position_of}
use Rattle.moment_core.specs.Sets.{ahead}
use Rattle.moment_core.specs.declared.line.Dir.{Dir}
use Rattle.moment_core.specs.declared.line.Dir.TheVariants.{Fore, Back}
use Rattle.moment_core.specs.declared.line.TheConstants.{LOW, HIGH, WIDTH}
use Rattle.moment_core.specs.declared.line.Window.{Window}
use Rattle.frame_core.specs.Periods.{least_common}
use Rattle.frame_core.specs.declared.frames.Frame.{Frame}

-- a frame's period is at least a second, and no longer than the calendar range
abbrev pub IsPeriod : ℕ → Type 0
IsPeriod n = (1 ≤ n) × (n ≤ WIDTH)

abbrev pub HasPeriod : Option Frame → Type 0
HasPeriod frame = IfSome frame (λ f. IsPeriod f.period)

-- from `hi` upwards and from `lo` downwards, membership repeats after each period
pub record Repeats (set : ℤ → Bool) (frame : Frame) : Type 0 where
  pub upwards : (p : ℤ) → frame.hi.0 ≤ℤ p → set (p +ℤ pos (2 * frame.period)) ≡ set p
  pub downwards : (p : ℤ) → p ≤ℤ frame.lo.0 → set (p -ℤ pos (2 * frame.period)) ≡ set p

-- the same where there is a frame
abbrev pub RepeatsIfFramed : (ℤ → Bool) → Option Frame → Type 0
RepeatsIfFramed set None = Unit {0}
RepeatsIfFramed set (Some frame) = Repeats set frame

-- in one way at most
pub HasPeriod-prop : (o : Option Frame) → IsProp (HasPeriod o)
HasPeriod-prop None = hlevel props
HasPeriod-prop (Some frame) = hlevel props

Repeats-prop : (set : ℤ → Bool) (frame : Frame) → IsProp (Repeats set frame)
Repeats-prop set frame x y =
    let up : IsProp ((p : ℤ) → frame.hi.0 ≤ℤ p → set (p +ℤ pos (2 * frame.period)) ≡ set p) =
    hlevel props in
    let down : IsProp ((p : ℤ) → p ≤ℤ frame.lo.0 → set (p -ℤ pos (2 * frame.period)) ≡ set p) =
    hlevel props in
    λ i. record { upwards = up x.upwards y.upwards i; downwards = down x.downwards y.downwards i }

pub RepeatsIfFramed-prop : (set : ℤ → Bool) (o : Option Frame) → IsProp (RepeatsIfFramed set o)
RepeatsIfFramed-prop set None = hlevel props
RepeatsIfFramed-prop set (Some frame) = Repeats-prop set frame

-- the frame with these ends and this period, where the period is no longer than the calendar range
abbrev pub framed : ℤ → ℤ → ℕ → Option Frame
framed lo hi period =
    if nat_le period WIDTH
    then Some (record { lo = record { 0 = lo }; hi = record { 0 = hi }; period = period }) else None

-- the frame of two sets together: the lesser `lo`, the greater `hi` and the least common period
abbrev pub join_of : Frame → Frame → Option Frame
join_of a b =
    framed (int_min a.lo.0 b.lo.0) (int_max a.hi.0 b.hi.0) (least_common a.period b.period)

-- the window from a to b, where it lies in the calendar range
abbrev pub in_calendar : ℤ → ℤ → Option Window
in_calendar a b =
    if int_le (position_of LOW) a && int_le b (position_of HIGH)
    then Some (record { lo = record { 0 = a }; hi = record { 0 = b } }) else None

-- from where on, at p or past it, the set repeats, and the end of the first period from there
abbrev pub repeats_from : Frame → Dir → ℤ → ℤ
repeats_from frame Fore p = int_max p frame.hi.0
repeats_from frame Back p = int_min p frame.lo.0

abbrev pub repeats_by : Frame → Dir → ℤ → ℤ
repeats_by frame dir p = ahead dir (repeats_from frame dir p) (2 * frame.period)

-- the window of that period, where it lies in the calendar range
abbrev pub window_after : Frame → Dir → ℤ → Option Window
window_after frame Fore p = in_calendar (repeats_from frame Fore p) (repeats_by frame Fore p)
window_after frame Back p = in_calendar (repeats_by frame Back p) (repeats_from frame Back p)

-- the same where there is a frame
abbrev pub window_if_framed : Option Frame → Dir → ℤ → Option Window
window_if_framed None dir p = None
window_if_framed (Some frame) dir p = window_after frame dir p
