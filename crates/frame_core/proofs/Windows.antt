-- Where windows lie, and what they say of the whole line.
use Rattle.std.proofs.Common.{◌≡◌, ap, refl, subst, arith, ℕ, ℤ, ◌≤ℤ◌, Bool, true, false, ◌&&◌, int_le, Option, Some, None, if◌then◌else◌}
use Rattle.std.proofs.lemmas.Bool.{and_parts}
use Rattle.std.proofs.lemmas.Int.{clamps, ints}
use Rattle.moment_core.specs.Line.{IsCalendarPosition, position_of}
use Rattle.moment_core.specs.Sets.{ahead, seen, IsUpTo}
use Rattle.moment_core.specs.declared.line.Dir.{Dir}
use Rattle.moment_core.specs.declared.line.Dir.TheVariants.{Fore, Back}
use Rattle.moment_core.specs.declared.line.TheConstants.{LOW, HIGH}
use Rattle.moment_core.specs.declared.line.Window.{Window}
use Rattle.span_core.specs.Answers.{IsFound, end_of}
use Rattle.span_core.specs.declared.answers.Answer.TheVariants.{None as Never}
use Rattle.moment_core.proofs.Comparing.{int_le-true}
use Rattle.frame_core.specs.Frames.{HasPeriod, RepeatsIfFramed, in_calendar, repeats_by, repeats_from, window_after, window_if_framed}
use Rattle.frame_core.specs.Laws.{IsWindowPast}
use Rattle.frame_core.specs.declared.frames.Frame.{Frame}
use Rattle.frame_core.proofs.Repeating.{keeps}

abbrev window_at : ℤ → ℤ → Window
window_at a b = record { lo = record { 0 = a }; hi = record { 0 = b } }

-- a window that is there goes from a to b, and lies in the calendar range
abbrev Lies : ℤ → ℤ → Window → Type 0
Lies a b w = (w.lo.0 ≡ a) × (w.hi.0 ≡ b) × (position_of LOW ≤ℤ a) × (b ≤ℤ position_of HIGH)

in_calendar-lies : (a b : ℤ) (w : Window) → in_calendar a b ≡ Some w → Lies a b w
in_calendar-lies a b w = elim (int_le (position_of LOW) a && int_le b (position_of HIGH)) as
    (λ t. (int_le (position_of LOW) a && int_le b (position_of HIGH)) ≡ t
    → (if t then Some (window_at a b) else None) ≡ Some w → Lies a b w) [
      | true ↦ λ t e.
          let same : w ≡ window_at a b = cc in
          let parts = and_parts (int_le (position_of LOW) a) (int_le b (position_of HIGH)) t in (
            ap (λ (v : Window). v.lo.0) same,
            ap (λ (v : Window). v.hi.0) same,
            int_le-true (position_of LOW) a parts.0,
            int_le-true b (position_of HIGH) parts.1,
          )
      | false ↦ λ t e. absurd cc
    ] refl

window_lies : (frame : Frame) (dir : Dir) (p : ℤ) (w : Window) → window_after frame dir p ≡ Some w
    → IsWindowPast dir p w
window_lies frame Fore p w e =
    let lies = in_calendar-lies (repeats_from frame Fore p) (repeats_by frame Fore p) w e in
    record {
      low = (omega (arith, ints, clamps), omega (arith, ints, clamps));
      high = (omega (arith, ints, clamps), omega (arith, ints, clamps));
      past = omega (arith, ints, clamps);
    }
window_lies frame Back p w e =
    let lies = in_calendar-lies (repeats_by frame Back p) (repeats_from frame Back p) w e in
    record {
      low = (omega (arith, ints, clamps), omega (arith, ints, clamps));
      high = (omega (arith, ints, clamps), omega (arith, ints, clamps));
      past = omega (arith, ints, clamps);
    }

-- the window's end is where the first period ends
window_ends : (frame : Frame) (dir : Dir) (p : ℤ) (w : Window) → window_after frame dir p ≡ Some w
    → end_of dir (Never w) ≡ repeats_by frame dir p
window_ends frame Fore p w e =
    (in_calendar-lies (repeats_from frame Fore p) (repeats_by frame Fore p) w e).1
window_ends frame Back p w e =
    (in_calendar-lies (repeats_by frame Back p) (repeats_from frame Back p) w e).0

pub windows_lie : (o : Option Frame) (dir : Dir) (p : ℤ) (w : Window) → window_if_framed o dir p
    ≡ Some w → IsWindowPast dir p w
windows_lie (Some frame) dir p w e = window_lies frame dir p w e
windows_lie None dir p w e = absurd cc

pub windows_keep : (set : ℤ → Bool) (o : Option Frame) (dir : Dir) (p : ℤ) (w : Window)
    → HasPeriod o → RepeatsIfFramed set o → window_if_framed o dir p ≡ Some w
    → ((k : ℕ) → IsUpTo dir (end_of dir (Never w)) (ahead dir p k) → seen set dir p k ≡ set p)
    → (k : ℕ) → seen set dir p k ≡ set p
windows_keep set (Some frame) dir p w period r e near =
    let P : ℤ → Type 0 = λ z. (k : ℕ) → IsUpTo dir z (ahead dir p k) → seen set dir p k ≡ set p in
    keeps set frame dir p (omega (arith, period.0)) r (subst P (window_ends frame dir p w e) near)
windows_keep set None dir p w period r e near = absurd cc

up_to_window : (dir : Dir) (p : ℤ) (w : Window) (k : ℕ) → IsCalendarPosition p
    → IsWindowPast dir p w → IsUpTo dir (end_of dir (Never w)) (ahead dir p k)
    → IsCalendarPosition (ahead dir p k)
up_to_window Fore p w k here lies near = (omega (arith, ints), omega (arith, ints, lies.high.1))
up_to_window Back p w k here lies near = (omega (arith, ints, lies.low.0), omega (arith, ints))

pub never_differs : (set : ℤ → Bool) (o : Option Frame) (dir : Dir) (p : ℤ) (w : Window)
    → HasPeriod o → RepeatsIfFramed set o → IsCalendarPosition p
    → IsFound set (window_if_framed o dir p) dir p (Never w) → (k : ℕ) → seen set dir p k ≡ set p
never_differs set o dir p w period r here found =
    windows_keep set o dir p w period r found.1
    (λ k near. found.0 k (up_to_window dir p w k here (windows_lie o dir p w found.1) near))
