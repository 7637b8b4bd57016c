-- A run without a bound never ends there, where the set repeats.
use Rattle.std.proofs.Common.{◌≡◌, refl, sym, ◌∙◌, arith, ℤ, pos, ◌+ℤ◌, Bool, true, false, Option, Some, None, if◌then◌else◌, subst}
use Rattle.std.specs.Ordering.{int_eq}
use Rattle.std.proofs.lemmas.Int.{ints}
use Rattle.moment_core.specs.Line.{IsCalendarPosition, is_moment, moment_of, position_of}
use Rattle.moment_core.specs.Sets.{ahead, IsUpTo, range_end}
use Rattle.moment_core.specs.declared.line.Dir.{Dir}
use Rattle.moment_core.specs.declared.line.Dir.TheVariants.{Fore, Back}
use Rattle.moment_core.specs.declared.line.TheConstants.{LOW, HIGH}
use Rattle.moment_core.specs.declared.line.Window.{Window}
use Rattle.moment_core.proofs.Order.{ahead_up_to, up_to_end}
use Rattle.moment_core.proofs.Comparing.{int_eq-is}
use Rattle.span_core.specs.Bounds.{high_bound, low_bound}
use Rattle.span_core.specs.declared.bounds.Bound.TheVariants as bounds
use Rattle.frame_core.specs.Frames.{HasPeriod, RepeatsIfFramed, window_if_framed}
use Rattle.frame_core.specs.Laws.{NeverIsForEver}
use Rattle.frame_core.specs.declared.frames.Frame.{Frame}
use Rattle.run_search.specs.Endless.{NeverEnds}
use Rattle.run_search.specs.Runs.{beyond, far_of, item_from}

low_is_bounded : (z : ℤ) → low_bound z ≡ bounds.Inf → ⊥
low_is_bounded z h =
    elim (is_moment z) as (λ b. (if b then bounds.Closed (record { 0 = moment_of z }) else
    bounds.Open (record { 0 = moment_of z })) ≡ bounds.Inf → ⊥) [
      | true ↦ λ h. absurd cc
      | false ↦ λ h. absurd cc
    ] h

high_is_bounded : (z : ℤ) → high_bound z ≡ bounds.Inf → ⊥
high_is_bounded z h =
    elim (is_moment z) as (λ b. (if b then bounds.Closed (record { 0 = moment_of z }) else
    bounds.Open (record { 0 = moment_of z +ℤ pos 1 })) ≡ bounds.Inf → ⊥) [
      | true ↦ λ h. absurd cc
      | false ↦ λ h. absurd cc
    ] h

-- nothing lies beyond only where there is a window
some_window : (o : Option Window) → beyond o ≡ bounds.Inf → (w : Window) × (o ≡ Some w)
some_window (Some w) h = (w, refl)
some_window None h = absurd cc

-- so a run without a bound reaches the range's end, towards which there is a window
reaches_end : (window : Dir → ℤ → Option Window) (dir : Dir) (near far : ℤ)
    → far_of dir (item_from window dir near far) ≡ bounds.Inf → (far ≡ range_end dir)
    × ((w : Window) × (window dir near ≡ Some w))
reaches_end window Fore near far h =
    elim (int_eq far (position_of HIGH)) as (λ b. int_eq far (position_of HIGH) ≡ b
    → (if b then beyond (window Fore near) else high_bound far) ≡ bounds.Inf
    → (far ≡ position_of HIGH) × ((w : Window) × (window Fore near ≡ Some w))) [
      | true ↦ λ e h. (int_eq-is far (position_of HIGH) e, some_window (window Fore near) h)
      | false ↦ λ e h. absurd (high_is_bounded far h)
    ] refl h
reaches_end window Back near far h =
    elim (int_eq far (position_of LOW)) as (λ b. int_eq far (position_of LOW) ≡ b
    → (if b then beyond (window Back near) else low_bound far) ≡ bounds.Inf
    → (far ≡ position_of LOW) × ((w : Window) × (window Back near ≡ Some w))) [
      | true ↦ λ e h. (int_eq-is far (position_of LOW) e, some_window (window Back near) h)
      | false ↦ λ e h. absurd (low_is_bounded far h)
    ] refl h

pub never_ends : NeverIsForEver → (set : ℤ → Bool) (frame : Option Frame) → HasPeriod frame
    → RepeatsIfFramed set frame → (dir : Dir) (near far : ℤ) → IsCalendarPosition near
    → IsUpTo dir far near → ((q : ℤ) → IsUpTo dir q near → IsUpTo dir far q → set q ≡ true)
    → NeverEnds set dir near (far_of dir (item_from (window_if_framed frame) dir near far))
never_ends never set frame period repeats dir near far here some members none k =
    let end = reaches_end (window_if_framed frame) dir near far none in
    let member : set near ≡ true = members near (first dir near) some in
    never set frame dir near end.1.0 period repeats here (
      λ j within. members (ahead dir near j) (ahead_up_to dir near j) (let P : ℤ
          → Type 0 = λ z. IsUpTo dir z (ahead dir near j) in subst P (sym end.0)
          (up_to_end dir (ahead dir near j) within)) ∙ sym member,
      end.1.1,
    ) k
    ∙ member
  where
    first : (dir : Dir) (p : ℤ) → IsUpTo dir p p
    first Fore p = omega (arith, ints)
    first Back p = omega (arith, ints)
