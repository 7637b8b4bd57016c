-- What frames and their windows say, both ways and for every set that repeats by the frame.
use Rattle.std.specs.Prelude.{◌≡◌, ◌*◌, ◌<◌, ◌≤◌, ℕ, ℤ, ◌≤ℤ◌, Bool, Option, Some}
use Rattle.std.specs.Int.{IsGcd}
use Rattle.moment_core.specs.Line.{IsCalendarPosition}
use Rattle.moment_core.specs.Sets.{ahead, seen, IsUpTo}
use Rattle.moment_core.specs.declared.line.Dir.{Dir}
use Rattle.moment_core.specs.declared.line.TheConstants.{G}
use Rattle.moment_core.specs.declared.line.Window.{Window}
use Rattle.span_core.specs.Answers.{IsFound, end_of}
use Rattle.span_core.specs.declared.answers.Answer.TheVariants.{None as Never}
use Rattle.frame_core.specs.Frames.{HasPeriod, IsPeriod, Repeats, RepeatsIfFramed, join_of, repeats_by, window_if_framed}
use Rattle.frame_core.specs.Periods.{IsLeastCommon, greatest_common, least_common, period_of_rule}
use Rattle.frame_core.specs.declared.frames.Frame.{Frame}

-- where nothing differs from p up to the end of the first period past p, nothing ever does
abbrev pub OnePeriodTells : Type 0
OnePeriodTells =
    (set : ℤ → Bool) (frame : Frame) (dir : Dir) (p : ℤ) → 0 < frame.period → Repeats set frame
    → ((k : ℕ) → IsUpTo dir (repeats_by frame dir p) (ahead dir p k) → seen set dir p k ≡ set p)
    → (k : ℕ) → seen set dir p k ≡ set p

-- two sets together repeat with the joined frame
abbrev pub SetsRepeatTogether : Type 0
SetsRepeatTogether =
    (f g : ℤ → Bool) (op : Bool → Bool → Bool) (a b joined : Frame) → IsPeriod a.period
    → IsPeriod b.period
    → join_of a b ≡ Some joined → Repeats f a → Repeats g b → Repeats (λ p. op (f p) (g p)) joined

-- whose period is one
abbrev pub JoinedPeriods : Type 0
JoinedPeriods =
    (a b joined : Frame) → IsPeriod a.period → IsPeriod b.period → join_of a b ≡ Some joined
    → IsPeriod joined.period

-- what is made of one set's membership alone repeats with its frame
abbrev pub SetsRepeatApart : Type 0
SetsRepeatApart =
    (f : ℤ → Bool) (op : Bool → Bool) (frame : Frame) → Repeats f frame
    → Repeats (λ p. op (f p)) frame

-- a set that has one value from `hi` upwards and one from `lo` downwards repeats with any period
abbrev pub ConstantSetsRepeat : Type 0
ConstantSetsRepeat =
    (set : ℤ → Bool) (frame : Frame) (v w : Bool)
    → ((p : ℤ) → frame.hi.0 ≤ℤ p → set p ≡ v)
    → ((p : ℤ) → p ≤ℤ frame.lo.0 → set p ≡ w) → Repeats set frame

-- the greatest common divisor and the least common multiple are what their names say
abbrev pub DivisorsAreGreatest : Type 0
DivisorsAreGreatest = (a b : ℕ) → IsGcd a b (greatest_common a b)

abbrev pub MultiplesAreLeast : Type 0
MultiplesAreLeast = (a b : ℕ) → 1 ≤ a → 1 ≤ b → IsLeastCommon a b (least_common a b)

-- a rule's period is so many times 400 years that the interval divides the units in it
abbrev pub RulesComeRound : Type 0
RulesComeRound =
    (units interval : ℕ) → 1 ≤ interval
    → (1 ≤ period_of_rule units interval)
    × ((m : ℕ) × (j : ℕ) × (period_of_rule units interval ≡ m * G) × (m * units ≡ j * interval))

-- the window lies in the calendar range, and its end is not before p, in the direction
pub record IsWindowPast (dir : Dir) (p : ℤ) (w : Window) : Type 0 where
  pub low : IsCalendarPosition w.lo.0
  pub high : IsCalendarPosition w.hi.0
  pub past : IsUpTo dir (end_of dir (Never w)) p

abbrev pub WindowsLie : Type 0
WindowsLie =
    (frame : Option Frame) (dir : Dir) (p : ℤ) (w : Window) → window_if_framed frame dir p ≡ Some w
    → IsWindowPast dir p w

-- where nothing differs from p up to the end of the window, nothing ever does
abbrev pub WindowsKeep : Type 0
WindowsKeep =
    (set : ℤ → Bool) (frame : Option Frame) (dir : Dir) (p : ℤ) (w : Window) → HasPeriod frame
    → RepeatsIfFramed set frame
    → window_if_framed frame dir p ≡ Some w
    → ((k : ℕ) → IsUpTo dir (end_of dir (Never w)) (ahead dir p k) → seen set dir p k ≡ set p)
    → (k : ℕ) → seen set dir p k ≡ set p

-- so too where the window is the answer of a search
abbrev pub NeverIsForEver : Type 0
NeverIsForEver =
    (set : ℤ → Bool) (frame : Option Frame) (dir : Dir) (p : ℤ) (w : Window) → HasPeriod frame
    → RepeatsIfFramed set frame
    → IsCalendarPosition p → IsFound set (window_if_framed frame dir p) dir p (Never w) → (k : ℕ)
    → seen set dir p k ≡ set p
